-- One row read in a closing, by the ways that it ends. Assumes nothing.
use mathlib.Core.Path.{◌≡◌, refl, sym, ap, ◌∙◌}
use mathlib.Core.Logic.{inl, inr}
use mathlib.Core.Bool.{Bool, true, false}
use mathlib.Core.List.{List}
use Prim.Native.Nat.{ℕ, suc, ◌+◌, ◌-◌, ◌*◌, ◌<◌}
use lib.ListN.{length, take, drop}
use Rattle.std.specs.Prelude.{Result, Ok, Err}
use Rattle.words.specs.Region.{Region, region}
use Rattle.meter.specs.declared.Meter.{Meter}
use Rattle.meter.specs.Tick.{Tick}
use Rattle.meter.specs.Tick as tick
use Rattle.meter.specs.Meter.{ticks}
use Rattle.model.specs.declared.Header.{Header}
use Rattle.model.specs.declared.Deduction.{Deduction}
use Rattle.model.specs.declared.Deduction.TheVariants.{Nothing, Force, Require}
use Rattle.model.specs.declared.Literal.{Literal}
use Rattle.model.specs.Contradicted.{Contradicted}
use Rattle.model.specs.Records.{Row, Entry, Ledger, row_at, slot_words}
use Rattle.model.specs.Slots.{entries_in, row_in}
use Rattle.model.specs.Deduction.{deduction, deduction_ticks, start_cursor}
use Rattle.model.specs.Closing.{State, Turn, going, conflict, halted, with_hit, hit_at, decide_on, publish, follow, naming}
use Rattle.model.specs.Closing.{reading, earns, act}
use Rattle.model.proofs.Priority.Earning.{decides-none}
use Rattle.row_deduce.specs.Walks.{once}
use Rattle.row_deduce.specs.Walks as walk
use Rattle.row_deduce.proofs.Walks.{halted-by, done-by}
use Rattle.slots.specs.Layout.{Held}
use Rattle.tier.specs.Tier.{hit_words}
use Rattle.slots.proofs.Rows.{slot-code}
use Rattle.close_publish.specs.Turns.{ledger_of, Beside, beside, state, ended_as, Counted, earned_by}
use Rattle.close_publish.specs.declared.Halt.{Halt}
use Rattle.close_publish.specs.declared.Halt.TheVariants.{Conflict, Stopped}
use Rattle.close_publish.proofs.Standing.{Hits, row_is, hit-entries}

-- ---- what is decided, by what was deduced
module _ (n : ℕ) (r : Row) (d : Deduction) (s : State) where
  pub follow-nothing : d ≡ Nothing → going s ≡ follow n r d s
  unfolding follow
  follow-nothing e = sym (ap (λ (d : Deduction). follow n r d s) e)

  pub follow-force : d ≡ Force → publish (suc (length r.outputs)) n r start_cursor s ≡ follow n r d s
  unfolding follow
  follow-force e = sym (ap (λ (d : Deduction). follow n r d s) e)

  pub follow-require : (c o : Literal) → d ≡ Require c o → decide_on n c.0 s ≡ follow n r d s
  unfolding follow
  follow-require c o e = sym (ap (λ (d : Deduction). follow n r d s) e)

-- ---- the reading, and whether it earns a hit
-- none where the region is as it was, and there is no Conflict
pub going-unearned : (n : ℕ) (l : Beside) (held cut : List ℕ) (m : Meter) → false ≡ earns n (region held cut) (going (state l held cut m))
unfolding earns
going-unearned n l held cut m = sym (decides-none n (region held cut))

earned_is : {A : Type 0} (n c c' : ℕ) (old : Region) (g : Result A Halt) (s : State) → Counted n c c' old s.region
    → earned_by g c c' ≡ earns n old (ended_as g s)
unfolding earns
earned_is n c c' old (Ok a) s w = w.more
earned_is n c c' old (Err Conflict) s w = refl
earned_is n c c' old (Err Stopped) s w = w.more

module _ (n p : ℕ) (s : State) (t : Turn) (e : reading n (row_at p s.ledger) s ≡ t) where
  abbrev by : Bool → Turn → Turn
  by b u = elim b [ true ↦ with_hit p u | false ↦ u ]

  act-is : act n p s ≡ by (earns n s.region t) t
  unfolding act
  act-is = ap (λ (u : Turn). by (earns n s.region u) u) e

  pub act-earned : earns n s.region t ≡ true → with_hit p t ≡ act n p s
  act-earned q = sym (act-is ∙ ap (λ (b : Bool). by b t) q)

  pub act-unearned : earns n s.region t ≡ false → t ≡ act n p s
  act-unearned q = sym (act-is ∙ ap (λ (b : Bool). by b t) q)

-- what stands beside a reading after a deduction: the output that it names
abbrev pub saying : Deduction → Beside → Beside
saying d l = beside l.ledger (naming d l.contradicted)

module _ (n p : ℕ) (l : Beside) (held cut : List ℕ) (m : Meter) (r : Row) (e : row_at p l.ledger ≡ r) where
  abbrev told : Deduction
  told = deduction (region held cut) r

  abbrev ticked : Tick
  ticked = ticks (deduction_ticks (region held cut) r) m

  by-tick : Tick → Turn
  by-tick t = elim t [ tick.Stopped k ↦ halted (state l held cut k) | tick.Ticked k ↦ follow n r told (state (saying told l) held cut k) ]

  reading-is : reading n (row_at p l.ledger) (state l held cut m) ≡ by-tick ticked
  unfolding reading by-tick
  reading-is =
      ap (λ (r : Row). elim (ticks (deduction_ticks (region held cut) r) m) as (λ t. Turn) [
        | tick.Stopped k ↦ halted (state l held cut k)
        | tick.Ticked k ↦ follow n r (deduction (region held cut) r) (state (saying (deduction (region held cut) r) l) held cut k)
      ]) e

  -- nothing is decided where the ticks were not all made
  pub act-stopped : {k : Meter} → walk.halted k ≡ once told ticked → halted (state l held cut k) ≡ act n p (state l held cut m)
  unfolding by-tick earns
  act-stopped {k} q =
      act-unearned n p (state l held cut m) (halted (state l held cut k))
      (reading-is ∙ ap by-tick (halted-by told ticked k q)) (decides-none n (region held cut))

  -- they were, and d was deduced
  module _ (d : Deduction) (k : Meter) (q : walk.done d k ≡ once told ticked) where
    reading-said : reading n (row_at p l.ledger) (state l held cut m) ≡ follow n r d (state (saying d l) held cut k)
    unfolding by-tick
    reading-said =
        let w = done-by told d ticked k q in
        reading-is ∙ ap by-tick w.0 ∙ ap (λ (x : Deduction). follow n r x (state (saying x l) held cut k)) w.1

    pub act-nothing : d ≡ Nothing → going (state l held cut k) ≡ act n p (state l held cut m)
    unfolding earns
    act-nothing z =
        act-unearned n p (state l held cut m) (going (state l held cut k))
        (reading-said ∙ sym (follow-nothing n r d (state (saying d l) held cut k) z)
        ∙ ap (λ (x : Deduction). going (state (saying x l) held cut k)) z)
        (decides-none n (region held cut))

-- ---- by the words
module _ (n rows p : ℕ) (slots held cut : List ℕ) (m : Meter) (k : Held n rows slots) (i : p < rows) where
  abbrev part_of : List ℕ → List ℕ
  part_of ws = take ((slot_words * p + slot_words) - slot_words * p) (drop (slot_words * p) ws)

  abbrev row : Row
  row = row_in (part_of slots)

  pub part-row : (h : Header) → row_at p (ledger_of h rows slots) ≡ row
  part-row h = row_is h rows slots p i ∙ sym (ap row_in (slot-code slots p))

  -- d was deduced, and followed as far as g
  module _ (d : Deduction) (after : Meter)
      (q : walk.done d after ≡ once (deduction (region held cut) row) (ticks (deduction_ticks (region held cut) row) m))
      {A : Type 0} (g : Result A Halt) (held' cut' : List ℕ) (m' : Meter)
      (w : (l : Beside) → ended_as g (state l held' cut' m') ≡ follow n row d (state l held cut after))
      (c c' : ℕ) (counted : Counted n c c' (region held cut) (region held' cut'))
      (b : Bool) (o : b ≡ earned_by g c c') (before : Contradicted) (h : Header) where
    -- beside the reading, before it and after it
    abbrev given : Beside
    given = beside (ledger_of h rows slots) before

    abbrev left : List ℕ → State
    left ws = state (beside (ledger_of h rows ws) (naming d before)) held' cut' m'

    was_read : reading n (row_at p (ledger_of h rows slots)) (state given held cut m) ≡ ended_as g (left slots)
    was_read =
        reading-said n p given held cut m row (part-row h) d after q ∙ sym (w (beside (ledger_of h rows slots) (naming d before)))

    earns-is : (x : Bool) → b ≡ x → earns n (region held cut) (ended_as g (left slots)) ≡ x
    earns-is x e = sym (earned_is n c c' (region held cut) g (left slots) counted) ∙ sym o ∙ e

    -- no hit
    act-read : b ≡ false → ended_as g (left slots) ≡ act n p (state given held cut m)
    act-read e = act-unearned n p (state given held cut m) (ended_as g (left slots)) was_read (earns-is false e)

    -- the hit after it
    act-hit : b ≡ true → (slots' : List ℕ) → slots' ≡ hit_words p slots → ended_as g (left slots') ≡ act n p (state given held cut m)
    unfolding with_hit hit_at
    act-hit e slots' i' = go g ∙ act-earned n p (state given held cut m) (ended_as g (left slots)) was_read (earns-is true e)
      where
        hits : ledger_of h rows slots' ≡ hit_at p (ledger_of h rows slots)
        hits = ap (λ (es : List Entry). record { header = h; entries = es }) (ap (entries_in rows) i' ∙ hit-entries rows p slots k i)

        at : Ledger → State
        at l = state (beside l (naming d before)) held' cut' m'

        go : (g : Result A Halt) → ended_as g (left slots') ≡ with_hit p (ended_as g (left slots))
        go (Ok a) = ap (λ (l : Ledger). going (at l)) hits
        go (Err Conflict) = ap (λ (l : Ledger). conflict (at l)) hits
        go (Err Stopped) = ap (λ (l : Ledger). halted (at l)) hits

    -- one of the two, with the output that the code hands on
    pub act-reads : (slots' : List ℕ) → Hits b p slots slots' → (named : Contradicted) → named ≡ naming d before
        → ended_as g (state (beside (ledger_of h rows slots') named) held' cut' m') ≡ act n p (state given held cut m)
    act-reads slots' z named e =
        ap (λ (x : Contradicted). ended_as g (state (beside (ledger_of h rows slots') x) held' cut' m')) e ∙ either z
      where
        either : Hits b p slots slots' → ended_as g (left slots') ≡ act n p (state given held cut m)
        either (inl y) = act-hit y.0 slots' y.1
        either (inr y) = ap (λ (ws : List ℕ). ended_as g (left ws)) y.1 ∙ act-read y.0
