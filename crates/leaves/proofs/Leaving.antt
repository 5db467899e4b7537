-- What each call leaves, by the way it goes: not given a thing, or answered. Assumes nothing.
use mathlib.Core.Path.{◌≡◌, refl, sym, ap, ap₂, ◌∙◌}
use mathlib.Core.Bool.{Bool, true, false, not}
use mathlib.Core.List.{List, [], ◌∷◌}
use Rattle.std.specs.Prelude.{Option, Result, Ok, Err}
use mathlib.Core.Option as found
use Prim.Native.Nat.{ℕ, ◌≤◌, ◌<◌}
use lib.ListN.{length, get_or}
use borrow.Author.Tests.{eq-eqb, ne_eqb, le-leb, lt-leb}
use Rattle.std.specs.Prelude.{Option as Said}
use Rattle.words.specs.Bit.{max_word}
use Rattle.words.specs.Literal.{code}
use Rattle.words.specs.Region.{region, is_region, Decision, decision_on, decision_with, next_from, found_at}
use Rattle.meter.specs.declared.Meter.{Meter}
use Rattle.meter.specs.declared.Stopped as error
use Rattle.meter.specs.declared.Account.{Account}
use Rattle.meter.specs.declared.Account.TheVariants.{Remaining, Share}
use Rattle.meter.specs.Judged.{Judged}
use Rattle.meter.specs.Meter.{reads_left, pay, judged}
use Rattle.model.specs.declared.Literal.{Literal}
use Rattle.model.specs.declared.Source.TheVariants.{Founded}
use Rattle.model.specs.declared.Deduction.{Deduction}
use Rattle.model.specs.declared.OutputCursor.{OutputCursor}
use Rattle.model.specs.Answers.{flag_word}
use Rattle.model.specs.Records.{Row, slot_words, max_outputs}
use Rattle.model.specs.Rows.{includes, includes_reads, subsumes, subsumes_reads, prepare_reads}
use Rattle.model.specs.Union.{joins, join_reads, grown}
use Rattle.model.specs.Slots.{row_in, slot_of}
use Rattle.model.specs.Deduction.{Next, Published, published, next_output}
use Rattle.model.specs.Operations.{cursor_ok}
use Rattle.slots.specs.Layout.{proposal}
use Rattle.slots.proofs.Storing.{row-proposal}
use Rattle.slots.specs.Layout.{row_of}
use Rattle.row_merge.specs.Merge.{if_yes}
use Rattle.row_write.specs.Forms.{new_entry}
use Rattle.row_deduce.specs.Walks.{walked}
use Rattle.row_deduce.specs.Publication.{next_of, published_as}
use Rattle.wire.specs.Words.{flag_in, cursor_in, cursor_words}
use Rattle.leaves.specs.Calls.{account_in, meter_of, verdict_number, is_share, judged_words, next_words, said_words, deduced_words}
use Rattle.leaves.specs.Calls.{walked_words, next_left, prepared_by}
use Rattle.wire.specs.Replies.{left}
use Rattle.leaves.specs.Calls.{no_row, no_region, no_cursor, no_choice, no_slot, row_fits, asked_times}
use Rattle.leaves.specs.Calls.{Prepared, prepared, prepare_times, prepare_call, includes_call, subsumes_words, subsumes_call}
use Rattle.leaves.specs.Calls.{united_by, union_times, union_call, deduce_times, deduction_call, next_call, decide_left, decide_call}
use Rattle.leaves.specs.Calls.{next_from_words, found_call}
use Rattle.leaves.proofs.Calling.{fails, passes, passed}

-- ---- the words lent and left
abbrev account_by : List ℕ → Bool → Account
account_by ws b = elim (not b) [ true ↦ Share (record { 0 = get_or ws 0 0 }) | false ↦ Remaining (record { 0 = get_or ws 0 0 }) ]

pub account-capture : (ws : List ℕ) → get_or ws 1 0 ≡ 0 → Remaining (record { 0 = get_or ws 0 0 }) ≡ account_in ws
account-capture ws e = sym (ap (account_by ws) (eq-eqb (get_or ws 1 0) 0 e))

pub account-share : (ws : List ℕ) → (get_or ws 1 0 ≡ 0 → ⊥) → Share (record { 0 = get_or ws 0 0 }) ≡ account_in ws
account-share ws n = sym (ap (account_by ws) (ne_eqb (get_or ws 1 0) 0 n))

abbrev meter_with : ℕ → ℕ → Meter
meter_with c l = record { charged = c; limit = l }

pub same-meter : (w a : Meter) → a.limit ≡ w.limit → meter_with a.charged w.limit ≡ a
same-meter w a e = ap (meter_with a.charged) (sym e)

abbrev judged_as : ℕ → Account → ℕ → List ℕ
judged_as n a charged = n ∷ flag_word (is_share a) ∷ reads_left a ∷ charged ∷ []

pub judged-as : (j : Judged) {n : ℕ} {a : Account} → n ≡ verdict_number j.verdict → j.account ≡ a
    → judged_as n a j.meter.charged ≡ judged_words j
judged-as j e f = ap₂ (λ (n : ℕ) (a : Account). judged_as n a j.meter.charged) e (sym f)

pub next-as : (charged : ℕ) {x y : Next} → x ≡ y → next_words y charged ≡ next_words x charged
next-as charged e = ap (λ (x : Next). next_words x charged) (sym e)

pub stopped-as : (d : Result Deduction error.Stopped) (charged : ℕ) {e : error.Stopped} → d ≡ Err e
    → (0 ∷ 0 ∷ 0 ∷ charged ∷ []) ≡ deduced_words d charged
stopped-as d charged q = sym (ap (λ (x : Result Deduction error.Stopped). deduced_words x charged) q)

pub said-as : (d : Result Deduction error.Stopped) (charged : ℕ) {x : Deduction} → d ≡ Ok x → said_words x charged ≡ deduced_words d charged
said-as d charged q = sym (ap (λ (y : Result Deduction error.Stopped). deduced_words y charged) q)

-- ---- prepare
module _ (atoms : ℕ) (cs os paying : List ℕ) (times : ℕ) (slot answer : List ℕ) where
  pub prepare-unfit : row_fits atoms (row_of cs os) ≡ false
      → left no_row (slot ∷ answer ∷ []) ≡ prepare_call atoms cs os paying times slot answer
  unfolding prepare_call
  prepare-unfit e = fails no_row _ _ _ e

  module _ (f : row_fits atoms (row_of cs os) ≡ true) where
    pub prepare-short : (length slot ≡ slot_words → ⊥)
        → left no_slot (slot ∷ answer ∷ []) ≡ prepare_call atoms cs os paying times slot answer
    unfolding prepare_call
    prepare-short n = fails no_slot _ _ _ (ne_eqb _ _ n) ∙ passes no_row _ _ _ f

    pub prepare-done : {p s w : List ℕ} {a : Account} {m : Meter} {j : Judged} → length slot ≡ slot_words → p ≡ proposal (row_of cs os)
        → a ≡ account_in paying → m ≡ meter_of paying → prepared j s ≡ prepare_times (row_in p) times a m slot → w ≡ judged_words j
        → left 0 (s ∷ w ∷ []) ≡ prepare_call atoms cs os paying times slot answer
    unfolding prepare_call
    prepare-done {p} {s} {w} {a} {m} {j} l e g h x y =
        let same : row_in p ≡ row_of cs os = ap row_in e ∙ row-proposal (row_of cs os) in
        let all : prepared j s ≡ prepare_times (row_of cs os) times (account_in paying) (meter_of paying) slot =
        x ∙ ap (λ (r : Row). prepare_times r times a m slot) same
        ∙ ap₂ (λ (b : Account) (k : Meter). prepare_times (row_of cs os) times b k slot) g h in
        ap (λ (v : List ℕ). left 0 (s ∷ v ∷ [])) y
        ∙ ap (λ (z : Prepared). left 0 (z.slot ∷ judged_words z.judged ∷ [])) all
        ∙ passed (slot ∷ answer ∷ []) _ ∙ passes no_slot _ _ _ (eq-eqb _ _ l) ∙ passes no_row _ _ _ f

-- one call of it
pub prepared-once : (r : Row) (a : Account) (m : Meter) (slot new : List ℕ) {j : Judged} → j ≡ judged true (pay (prepare_reads r) a m)
    → new ≡ if_yes j.verdict (slot_of (new_entry r 0 0 Founded)) slot
    → prepared j new ≡ prepared_by r (judged true (pay (prepare_reads r) a m)) slot
prepared-once r a m slot new {j} e f = ap (prepared j) f ∙ ap (λ (x : Judged). prepared_by r x slot) e

-- ---- includes
module _ (atoms : ℕ) (cs ws : List ℕ) (forms : ℕ) (paying : List ℕ) (times : ℕ) (answer : List ℕ) where
  pub includes-unfit : row_fits atoms (row_of [] cs) ≡ false
      → left no_row (answer ∷ []) ≡ includes_call atoms cs ws forms paying times answer
  unfolding includes_call
  includes-unfit e = fails no_row _ _ _ e

  module _ (f : row_fits atoms (row_of [] cs) ≡ true) where
    pub includes-unfit2 : row_fits atoms (row_of [] ws) ≡ false
        → left no_row (answer ∷ []) ≡ includes_call atoms cs ws forms paying times answer
    unfolding includes_call
    includes-unfit2 e = fails no_row _ _ _ e ∙ passes no_row _ _ _ f

    module _ (g : row_fits atoms (row_of [] ws) ≡ true) where
      pub includes-unchosen : 3 < forms → left no_choice (answer ∷ []) ≡ includes_call atoms cs ws forms paying times answer
      unfolding includes_call
      includes-unchosen l = fails no_choice _ _ _ (lt-leb forms 3 l) ∙ passes no_row _ _ _ g ∙ passes no_row _ _ _ f

      pub includes-done : {x y : Row} {w : List ℕ} {a : Account} {m : Meter} {j : Judged} → forms ≤ 3 → x ≡ row_of [] cs → y ≡ row_of [] ws
          → a ≡ account_in paying → m ≡ meter_of paying
          → j ≡ asked_times (includes x.outputs y.outputs) (includes_reads x.outputs y.outputs) times a m
          → w ≡ judged_words j → left 0 (w ∷ []) ≡ includes_call atoms cs ws forms paying times answer
      unfolding includes_call
      includes-done {x} {y} {w} {a} {m} {j} l u v h i e k =
          let all : j ≡ asked_times (includes cs ws) (includes_reads cs ws) times (account_in paying) (meter_of paying) =
          e ∙ ap₂ (λ (r s : Row). asked_times (includes r.outputs s.outputs) (includes_reads r.outputs s.outputs) times a m) u v
          ∙ ap₂ (λ (b : Account) (n : Meter). asked_times (includes cs ws) (includes_reads cs ws) times b n) h i in
          ap (λ (z : List ℕ). left 0 (z ∷ [])) (k ∙ ap judged_words all)
          ∙ passed (answer ∷ []) _ ∙ passes no_choice _ _ _ (le-leb forms 3 l) ∙ passes no_row _ _ _ g ∙ passes no_row _ _ _ f

-- ---- subsumes
module _ (atoms : ℕ) (r s : Row) (turned : ℕ) (paying : List ℕ) (times : ℕ) (answer : List ℕ) where
  pub subsumes-unfit : row_fits atoms r ≡ false → left no_row (answer ∷ []) ≡ subsumes_call atoms r s turned paying times answer
  unfolding subsumes_call
  subsumes-unfit e = fails no_row _ _ _ e

  module _ (f : row_fits atoms r ≡ true) where
    pub subsumes-unfit2 : row_fits atoms s ≡ false → left no_row (answer ∷ []) ≡ subsumes_call atoms r s turned paying times answer
    unfolding subsumes_call
    subsumes-unfit2 e = fails no_row _ _ _ e ∙ passes no_row _ _ _ f

    module _ (g : row_fits atoms s ≡ true) where
      done : {w : List ℕ} → w ≡ (elim (flag_in turned) [ true ↦ subsumes_words s r paying times | false ↦ subsumes_words r s paying times ])
          → left 0 (w ∷ []) ≡ subsumes_call atoms r s turned paying times answer
      unfolding subsumes_call
      done e = ap (λ (z : List ℕ). left 0 (z ∷ [])) e ∙ passed (answer ∷ []) _ ∙ passes no_row _ _ _ g ∙ passes no_row _ _ _ f

      abbrev turned_by : Bool → List ℕ
      turned_by b = elim (not b) [ true ↦ subsumes_words s r paying times | false ↦ subsumes_words r s paying times ]

      asked_of : {t v x y : Row} {w : List ℕ} {a : Account} {m : Meter} {j : Judged} → x ≡ t → y ≡ v
          → a ≡ account_in paying → m ≡ meter_of paying
          → j ≡ asked_times (subsumes x y) (subsumes_reads x y) times a m → w ≡ judged_words j
          → w ≡ subsumes_words t v paying times
      asked_of {t} {v} {x} {y} {w} {a} {m} {j} d e h i l k =
          k ∙ ap judged_words (l
          ∙ ap₂ (λ (p q : Row). asked_times (subsumes p q) (subsumes_reads p q) times a m) d e
          ∙ ap₂ (λ (b : Account) (n : Meter). asked_times (subsumes t v) (subsumes_reads t v) times b n) h i)

      pub subsumes-turned : {x y : Row} {w : List ℕ} {a : Account} {m : Meter} {j : Judged} → (turned ≡ 0 → ⊥) → x ≡ s → y ≡ r
          → a ≡ account_in paying → m ≡ meter_of paying
          → j ≡ asked_times (subsumes x y) (subsumes_reads x y) times a m → w ≡ judged_words j
          → left 0 (w ∷ []) ≡ subsumes_call atoms r s turned paying times answer
      subsumes-turned n d e h i l k = done (asked_of d e h i l k ∙ sym (ap turned_by (ne_eqb turned 0 n)))

      pub subsumes-done : {x y : Row} {w : List ℕ} {a : Account} {m : Meter} {j : Judged} → turned ≡ 0 → x ≡ r → y ≡ s
          → a ≡ account_in paying → m ≡ meter_of paying
          → j ≡ asked_times (subsumes x y) (subsumes_reads x y) times a m → w ≡ judged_words j
          → left 0 (w ∷ []) ≡ subsumes_call atoms r s turned paying times answer
      subsumes-done n d e h i l k = done (asked_of d e h i l k ∙ sym (ap turned_by (eq-eqb turned 0 n)))

-- ---- union_outputs
pub united-of : (most : ℕ) (r t : Row) (a : Account) (m : Meter) {p q : List ℕ} {v : Judged} → p ≡ proposal t
    → v ≡ judged (joins most r (row_in p)) (pay (join_reads most r (row_in p)) a m)
    → q ≡ if_yes v.verdict (proposal (grown r (row_in p))) p
    → (v ≡ judged (joins most r t) (pay (join_reads most r t) a m)) × (q ≡ united_by r t v)
united-of most r t a m {p} {q} {v} e f g =
    let same : row_in p ≡ t = ap row_in e ∙ row-proposal t in (
      f ∙ ap (λ (x : Row). judged (joins most r x) (pay (join_reads most r x) a m)) same,
      g ∙ ap₂ (λ (x : Row) (w : List ℕ). if_yes v.verdict (proposal (grown r x)) w) same e,
    )

module _ (atoms : ℕ) (r t : Row) (most : ℕ) (paying : List ℕ) (times : ℕ) (slot answer : List ℕ) where
  pub union-unfit : row_fits atoms r ≡ false → left no_row (slot ∷ answer ∷ []) ≡ union_call atoms r t most paying times slot answer
  unfolding union_call
  union-unfit e = fails no_row _ _ _ e

  module _ (f : row_fits atoms r ≡ true) where
    pub union-unfit2 : row_fits atoms t ≡ false → left no_row (slot ∷ answer ∷ []) ≡ union_call atoms r t most paying times slot answer
    unfolding union_call
    union-unfit2 e = fails no_row _ _ _ e ∙ passes no_row _ _ _ f

    module _ (g : row_fits atoms t ≡ true) where
      pub union-unchosen : max_outputs < most → left no_choice (slot ∷ answer ∷ []) ≡ union_call atoms r t most paying times slot answer
      unfolding union_call
      union-unchosen l = fails no_choice _ _ _ (lt-leb most max_outputs l) ∙ passes no_row _ _ _ g ∙ passes no_row _ _ _ f

      module _ (l : most ≤ max_outputs) where
        pub union-short : (length slot ≡ slot_words → ⊥)
            → left no_slot (slot ∷ answer ∷ []) ≡ union_call atoms r t most paying times slot answer
        unfolding union_call
        union-short n =
            fails no_slot _ _ _ (ne_eqb _ _ n) ∙ passes no_choice _ _ _ (le-leb most max_outputs l)
            ∙ passes no_row _ _ _ g ∙ passes no_row _ _ _ f

        pub union-done : {x : Row} {q w : List ℕ} {a : Account} {m : Meter} {j : Judged} → length slot ≡ slot_words → x ≡ r
            → a ≡ account_in paying → m ≡ meter_of paying → (j ≡ union_times most x t times a m) × (q ≡ united_by x t j)
            → w ≡ judged_words j → left 0 (q ∷ w ∷ []) ≡ union_call atoms r t most paying times slot answer
        unfolding union_call
        union-done {x} {q} {w} {a} {m} {j} long u h i e k =
            let all : j ≡ union_times most r t times (account_in paying) (meter_of paying) =
            e.0 ∙ ap (λ (z : Row). union_times most z t times a m) u
            ∙ ap₂ (λ (b : Account) (n : Meter). union_times most r t times b n) h i in
            ap₂ (λ (y z : List ℕ). left 0 (y ∷ z ∷ [])) (e.1 ∙ ap (λ (z : Row). united_by z t j) u) k
            ∙ ap (λ (z : Judged). left 0 (united_by r t z ∷ judged_words z ∷ [])) all
            ∙ passed (slot ∷ answer ∷ []) _ ∙ passes no_slot _ _ _ (eq-eqb _ _ long) ∙ passes no_choice _ _ _ (le-leb most max_outputs l)
            ∙ passes no_row _ _ _ g ∙ passes no_row _ _ _ f

-- ---- deduction
words-walked : (d : Result Deduction error.Stopped) (m : Meter) → deduced_words d m.charged ≡ walked_words (walked d m)
words-walked (Ok d) m = refl
words-walked (Err e) m = refl

module _ (atoms : ℕ) (r : Row) (held cut paying : List ℕ) (times : ℕ) (answer : List ℕ) where
  pub deduction-unfit : row_fits atoms r ≡ false → left no_row (answer ∷ []) ≡ deduction_call atoms r held cut paying times answer
  unfolding deduction_call
  deduction-unfit e = fails no_row _ _ _ e

  module _ (f : row_fits atoms r ≡ true) where
    pub deduction-unmarked : is_region atoms (region held cut) ≡ false
        → left no_region (answer ∷ []) ≡ deduction_call atoms r held cut paying times answer
    unfolding deduction_call
    deduction-unmarked e = fails no_region _ _ _ e ∙ passes no_row _ _ _ f

    pub deduction-done : {x : Row} {w : List ℕ} {m : Meter} (n : Meter) (d : Result Deduction error.Stopped)
        → is_region atoms (region held cut) ≡ true → x ≡ r → m ≡ meter_of paying
        → walked d n ≡ deduce_times (region held cut) x times m → w ≡ deduced_words d n.charged
        → left 0 (w ∷ []) ≡ deduction_call atoms r held cut paying times answer
    unfolding deduction_call
    deduction-done {x} {w} {m} n d g u i e k =
        ap (λ (z : List ℕ). left 0 (z ∷ [])) (k ∙ words-walked d n
        ∙ ap walked_words (e ∙ ap₂ (λ (y : Row) (n : Meter). deduce_times (region held cut) y times n) u i))
        ∙ passed (answer ∷ []) _ ∙ passes no_region _ _ _ g ∙ passes no_row _ _ _ f

-- ---- next_output
module _ (atoms : ℕ) (r : Row) (held cut cursor paying answer : List ℕ) where
  pub next-unfit : row_fits atoms r ≡ false → left no_row (cursor ∷ answer ∷ []) ≡ next_call atoms r held cut cursor paying answer
  unfolding next_call
  next-unfit e = fails no_row _ _ _ e

  module _ (f : row_fits atoms r ≡ true) where
    pub next-unmarked : is_region atoms (region held cut) ≡ false
        → left no_region (cursor ∷ answer ∷ []) ≡ next_call atoms r held cut cursor paying answer
    unfolding next_call
    next-unmarked e = fails no_region _ _ _ e ∙ passes no_row _ _ _ f

    module _ (g : is_region atoms (region held cut) ≡ true) {x : Row} {k : OutputCursor} (u : x ≡ r) (v : k ≡ cursor_in cursor) where
      same_ok : cursor_ok x k ≡ cursor_ok r (cursor_in cursor)
      same_ok = ap₂ cursor_ok u v

      pub next-unpointed : cursor_ok x k ≡ false
          → left no_cursor (cursor ∷ answer ∷ []) ≡ next_call atoms r held cut cursor paying answer
      unfolding next_call
      next-unpointed e = fails no_cursor _ _ _ (sym same_ok ∙ e) ∙ passes no_region _ _ _ g ∙ passes no_row _ _ _ f

      pub next-done : {c w : List ℕ} {m : Meter} (n : Meter) (o : OutputCursor) (d : Result (Option Literal) error.Stopped)
          → cursor_ok x k ≡ true → m ≡ meter_of paying
          → published_as d o n ≡ next_output (region held cut) x k m → c ≡ cursor_words o → w ≡ next_words (next_of d) n.charged
          → left 0 (c ∷ w ∷ []) ≡ next_call atoms r held cut cursor paying answer
      unfolding next_call published
      next-done {c} {w} {m} n o d ok i e y z =
          let all : published_as d o n ≡ next_output (region held cut) r (cursor_in cursor) (meter_of paying) =
          e ∙ ap₂ (λ (t : Row) (p : OutputCursor). next_output (region held cut) t p m) u v
          ∙ ap (λ (l : Meter). next_output (region held cut) r (cursor_in cursor) l) i in
          ap₂ (λ (a b : List ℕ). left 0 (a ∷ b ∷ [])) y z ∙ ap (λ (t : Published). left 0 (next_left t)) all
          ∙ passed (cursor ∷ answer ∷ []) _ ∙ passes no_cursor _ _ _ (sym same_ok ∙ ok)
          ∙ passes no_region _ _ _ g ∙ passes no_row _ _ _ f

-- ---- decide, next_from
module _ (atoms : ℕ) (held cut : List ℕ) (atom value : ℕ) (answer : List ℕ) where
  pub decide-unmarked : is_region atoms (region held cut) ≡ false
      → left no_region (held ∷ cut ∷ answer ∷ []) ≡ decide_call atoms held cut atom value answer
  unfolding decide_call
  decide-unmarked e = fails no_region _ _ _ e

  pub decide-done : {d : Bool} {h k : List ℕ} {w : ℕ} → is_region atoms (region held cut) ≡ true
      → decision_with d h k ≡ decision_on atoms held cut (code atom (flag_in value)) → w ≡ flag_word d
      → left 0 (h ∷ k ∷ (w ∷ 0 ∷ 0 ∷ 0 ∷ []) ∷ []) ≡ decide_call atoms held cut atom value answer
  unfolding decide_call
  decide-done {d} {h} {k} g e f =
      ap (λ (w : ℕ). left 0 (h ∷ k ∷ (w ∷ 0 ∷ 0 ∷ 0 ∷ []) ∷ [])) f ∙ ap (λ (x : Decision). left 0 (decide_left x)) e
      ∙ passed (held ∷ cut ∷ answer ∷ []) _ ∙ passes no_region _ _ _ g

pub found_as : (ws : List ℕ) (from : ℕ) {f x : Said ℕ} → found_at f ≡ next_from max_word ws from → f ≡ x
    → left 0 (next_from_words (found_at x) ∷ []) ≡ found_call ws from
found_as ws from e g = ap (λ (o : found.Option ℕ). left 0 (next_from_words o ∷ [])) (ap found_at (sym g) ∙ e)
