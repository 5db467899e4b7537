-- The victim and the Founded rows, position by position. Assumes nothing.
use mathlib.Core.Path.{◌≡◌, refl, sym, ap, ap₂, ◌∙◌, subst}
use mathlib.Core.Bool.{Bool, true, false, ◌||◌, not}
use mathlib.Core.List.{List, []}
use mathlib.Core.Option as maybe
use Prim.Native.Nat.{ℕ, suc, ◌+◌, ◌-◌, ◌≤◌, ◌<◌}
use native.Mathlib.Numerals.{add-one}
use native.Mathlib.Omega.{arith}
use lib.Dec.{eqb}
use lib.ListN.{length, get_or, drop, drop_of_length-le}
use lib.Seq.{drop-cons}
use Rattle.std.specs.Prelude.{Option, Some, None, IfSome}
use Rattle.meter.specs.Meter.{pick}
use Rattle.model.specs.declared.Source.{Source}
use Rattle.model.specs.declared.Source.TheVariants.{Founded, Tip}
use Rattle.model.specs.Records.{Entry, source_at, source_word, is_tip, founded_rows}
use Rattle.model.specs.Slots.{entries_in}
use Rattle.model.specs.Retention.{before, evictable, lesser, least_from, victim_among}
use Rattle.slots.specs.Layout.{Held}
use Rattle.slots.proofs.Holding.{no-entry}
use Rattle.tier.specs.Tier.{word_at, lesser_of, may_go, lesser_after, least_by, victim_at}
use Rattle.model.proofs.Slots.{entries-length, source-small}
use Rattle.model.proofs.Entries.{founded_one, founded-cons}
use Rattle.tier.proofs.Buffer.{hits_at_lem, born-at, source-at}

-- ---- the least so far, with its entry
abbrev pub best : List Entry → Option ℕ → maybe.Option (ℕ × Entry)
best es None = maybe.none
best es (Some at) = maybe.some (at, get_or es at no-entry)

tip-word : (s : Source) → eqb (source_word s) 1 ≡ is_tip s
tip-word Founded = refl
tip-word Tip = refl

module _ {atoms : ℕ} (rows : ℕ) (ws : List ℕ) (k : Held atoms rows ws) (g : Bool) where
  abbrev es : List Entry
  es = entries_in rows ws

  go-is : (i : ℕ) → i < rows → may_go ws i g ≡ evictable g (get_or es i no-entry)
  unfolding may_go evictable
  go-is i l =
      ap (λ (b : Bool). not g || b) (ap (λ (w : ℕ). eqb w 1) (source-at rows i ws k l) ∙ tip-word (get_or es i no-entry).source)

  lesser-before : (at i : ℕ) → at < rows → i < rows
      → lesser_of ws at i ≡ pick (before (get_or es i no-entry) (get_or es at no-entry)) i at
  unfolding lesser_of before
  lesser-before at i h l = rw (hits_at_lem rows i ws k l, hits_at_lem rows at ws k h, born-at rows i ws k l, born-at rows at ws k h)

  lesser-best : (least : Option ℕ) (i : ℕ) → IfSome least (λ at. at < rows) → i < rows
      → best es (Some (lesser_after ws least i)) ≡ lesser (best es least) i (get_or es i no-entry)
  unfolding lesser
  lesser-best None i h l = refl
  lesser-best (Some at) i h l =
      ap (λ (x : ℕ). best es (Some x)) (lesser-before at i h l) ∙ go (before (get_or es i no-entry) (get_or es at no-entry))
    where
      go : (b : Bool)
          → best es (Some (pick b i at))
          ≡ (elim b [ true ↦ maybe.some (i, get_or es i no-entry) | false ↦ maybe.some (at, get_or es at no-entry) ])
      go true = refl
      go false = refl

  -- what a step makes of it
  abbrev next : Bool → Option ℕ → ℕ → maybe.Option (ℕ × Entry)
  next b least i = elim b [ true ↦ lesser (best es least) i (get_or es i no-entry) | false ↦ best es least ]

  step-best : (least : Option ℕ) (i : ℕ) → IfSome least (λ at. at < rows) → i < rows
      → best es (least_by ws least i g) ≡ next (evictable g (get_or es i no-entry)) least i
  unfolding least_by
  step-best least i h l = rw (← go-is i l) (by (may_go ws i g))
    where
      by : (b : Bool) → best es (pick b (Some (lesser_after ws least i)) least) ≡ next b least i
      by true = lesser-best least i h l
      by false = refl

  pub victim-step : (least : Option ℕ) (i : ℕ) → IfSome least (λ at. at < rows) → i < rows
      → least_from g (best es (least_by ws least i g)) (i + 1) (drop (i + 1) es) ≡ least_from g (best es least) i (drop i es)
  unfolding least_from
  victim-step least i h l =
      let q : i < length es = rw entries-length l in
      ap₂ (λ (x : maybe.Option (ℕ × Entry)) (n : ℕ). least_from g x n (drop n es)) (step-best least i h l) (add-one i)
      ∙ sym (ap (λ (r : List Entry). least_from g (best es least) i r) (drop-cons es i no-entry q))

  lesser-in : (at i : ℕ) → at < rows → i < rows → lesser_of ws at i < rows
  lesser-in at i h l =
      rw (lesser-before at i h l) (go (before (get_or es i no-entry) (get_or es at no-entry)))
    where
      go : (b : Bool) → pick b i at < rows
      go true = l
      go false = h

  pub least-in : (least : Option ℕ) (i : ℕ) → IfSome least (λ at. at < rows) → i < rows
      → IfSome (least_by ws least i g) (λ at. at < rows)
  unfolding least_by
  least-in least i h l = by (may_go ws i g) least h
    where
      by : (b : Bool) (o : Option ℕ) → IfSome o (λ at. at < rows) → IfSome (pick b (Some (lesser_after ws o i)) o) (λ at. at < rows)
      by false o k = k
      by true None k = l
      by true (Some at) k = lesser-in at i k l

  pub victim-end : (least : Option ℕ) (i : ℕ) → i ≡ rows
      → least_from g (best es least) i (drop i es) ≡ least_from g maybe.none 0 es → victim_at least ≡ victim_among g es
  unfolding least_from victim_among
  victim-end least i q e =
      let d : drop i es ≡ [] = drop_of_length-le es (rw entries-length (omega arith)) in
      by least ∙ ap at_of (sym (ap (λ (r : List Entry). least_from g (best es least) i r) d) ∙ e)
    where
      at_of : maybe.Option (ℕ × Entry) → maybe.Option ℕ
      at_of o = elim o [ maybe.none ↦ maybe.none | maybe.some k ↦ maybe.some k.0 ]

      by : (o : Option ℕ) → victim_at o ≡ at_of (best es o)
      by None = refl
      by (Some at) = refl

-- ---- the Founded rows, position by position
module _ {atoms : ℕ} (rows : ℕ) (ws : List ℕ) (k : Held atoms rows ws) where
  abbrev held : List Entry
  held = entries_in rows ws

  pub source-most : (i : ℕ) → i < rows → get_or ws (word_at i source_at) 0 ≤ 1
  source-most i l = subst (λ (n : ℕ). n ≤ 1) (sym (source-at rows i ws k l)) (source-small (get_or held i no-entry).source)

  one_word : (s : Source) → founded_one s ≡ 1 - source_word s
  one_word Founded = refl
  one_word Tip = refl

  pub founded-step : (i : ℕ) → i < rows
      → founded_rows (drop i held) ≡ (1 - get_or ws (word_at i source_at) 0) + founded_rows (drop (i + 1) held)
  founded-step i l =
      let q : i < length held = subst (λ (n : ℕ). i < n) (sym (entries-length rows ws)) l in
      ap founded_rows (drop-cons held i no-entry q) ∙ founded-cons (get_or held i no-entry) (drop (suc i) held)
      ∙ ap₂ (λ (a n : ℕ). a + founded_rows (drop n held))
      (one_word (get_or held i no-entry).source ∙ ap (λ (w : ℕ). 1 - w) (sym (source-at rows i ws k l))) (sym (add-one i))

  pub founded-end : (i : ℕ) → i ≡ rows → founded_rows (drop i held) ≡ 0
  unfolding founded_rows
  founded-end i e = ap founded_rows (drop_of_length-le held (rw entries-length (omega arith)))
