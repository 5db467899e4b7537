-- A decision in a closing: the code's answer as a turn, the region after it, and whether an atom was decided. Assumes nothing.
use mathlib.Core.Path.{◌≡◌, refl, sym, ap, ap₂, ◌∙◌, subst}
use mathlib.Core.Bool.{Bool, true, false, ◌||◌}
use mathlib.Core.List.{List}
use mathlib.Core.Option.{some}
use Prim.Native.Nat.{ℕ, ◌≤◌, ◌<◌}
use native.Mathlib.Decide.{dec_lt}
use native.Mathlib.Omega.{arith}
use lib.Dec.{T, eqb, ltb}
use borrow.Author.Tests.{lt-ltb, le-ltb}
use Rattle.lists.proofs.Bools.{and_both, T_true, T_of}
use Rattle.words.specs.Region.{Region, region, is_region, atoms_ok, holds, decide, decision_on, decision_with, marking}
use Rattle.words.specs.Region.{answer_in}
use Rattle.words.specs.declared.Marking.{Marking}
use Rattle.words.specs.declared.Marking.TheVariants.{Anew, Already, False}
use Rattle.words.proofs.Regions.{Sound, sound-of, region-test}
use Rattle.words.proofs.Deciding.{sound-decide, answer-none, answer-some, decide-some, holds-mark, marked-anew, marked-already}
use Rattle.meter.specs.declared.Meter.{Meter}
use Rattle.model.specs.Closing.{State, going, conflict, decide_on, decides, earns}
use Rattle.model.specs.Priority.{Contains}
use Rattle.model.proofs.Priority.Earning.{decides-none, decides-anew, decides-both}
use Rattle.close_note.specs.Noting.{after_mark, Room, Logs}
use Rattle.close_note.proofs.Logging.{logs-none}
use Rattle.close_publish.specs.Turns.{Beside, state, Counted}

-- words that are sound where there was a region are one
pub region-keeps : (n : ℕ) (r q : Region) → T (is_region n r) → Sound n q → T (is_region n q)
unfolding is_region
region-keeps n r q t s = region-test n q (T_of (and_both (atoms_ok n) _ (T_true (is_region n r) t)).0) s

-- ---- how many are noted
pub counted-none : (n k : ℕ) (r : Region) → Counted n k k r r
counted-none n k r = record { up = omega arith; more = le-ltb k k (omega arith) ∙ sym (decides-none n r); grown = λ x t. t }

ltb-both : (i j k : ℕ) → i ≤ j → j ≤ k → ltb i k ≡ (ltb i j || ltb j k)
ltb-both i j k h l = go (dec_lt i j)
  where
    go : Dec (i < j) → ltb i k ≡ (ltb i j || ltb j k)
    go (yes m) = lt-ltb i k (omega arith) ∙ sym (ap (λ (b : Bool). b || ltb j k) (lt-ltb i j m))
    go (no m) =
        let e : i ≡ j = omega arith in
        ap (λ (x : ℕ). ltb x k) e ∙ sym (ap (λ (b : Bool). b || ltb j k) (le-ltb i j (omega arith)))

pub counted-both : (n i j k : ℕ) (r q p : Region) → Counted n i j r q → Counted n j k q p → Counted n i k r p
counted-both n i j k r q p w v = record {
  up = (let a = w.up in let b = v.up in omega arith);
  more = ltb-both i j k w.up v.up ∙ ap₂ ◌||◌ w.more v.more ∙ sym (decides-both n r q p w.grown v.grown);
  grown = λ x t. v.grown x (w.grown x t);
}

module _ (n : ℕ) (held cut : List ℕ) (c : ℕ) (b : Bool) (held' cut' : List ℕ)
    (e : decision_with b held' cut' ≡ decision_on n held cut c) where
  pub decided-going : b ≡ true → (l : Beside) (m : Meter) → going (state l held' cut' m) ≡ decide_on n c (state l held cut m)
  unfolding decide_on
  decided-going t l m = rw (answer-some n held cut c b held' cut' e t, decide_on)

  pub decided-conflict : b ≡ false → (l : Beside) (m : Meter) → conflict (state l held' cut' m) ≡ decide_on n c (state l held cut m)
  unfolding decide_on
  decided-conflict f l m =
      let a = answer-none n held cut c b held' cut' e f in
      ap₂ (λ (x y : List ℕ). conflict (state l x y m)) a.1 a.2 ∙ sym (rw (a.0, decide_on))

  -- a false decision leaves the region as it was
  pub decided-region : T (is_region n (region held cut)) → T (is_region n (region held' cut'))
  decided-region t = go b e
    where
      go : (d : Bool) → decision_with d held' cut' ≡ decision_on n held cut c → T (is_region n (region held' cut'))
      go true q =
          region-keeps n (region held cut) (region held' cut') t
          (sound-decide n (region held cut) c (region held' cut') (sound-of n (region held cut) t)
          (answer-some n held cut c true held' cut' q refl))
      go false q =
          let a = answer-none n held cut c false held' cut' q refl in
          subst (λ (r : Region). T (is_region n r)) (ap₂ (λ (x y : List ℕ). region x y) (sym a.1) (sym a.2)) t

  -- and nothing is counted
  pub conflict-counts : b ≡ false → (k : ℕ) → Counted n k k (region held cut) (region held' cut')
  conflict-counts f k =
      let a = answer-none n held cut c b held' cut' e f in
      subst (Counted n k k (region held cut)) (ap₂ (λ (x y : List ℕ). region x y) (sym a.1) (sym a.2)) (counted-none n k (region held cut))

  -- nor noted
  pub conflict-logs : b ≡ false → (k : ℕ) (ws : List ℕ) → Room n k ws (region held cut)
      → Logs n k ws (region held cut) k ws (region held' cut')
  conflict-logs f k ws w =
      let a = answer-none n held cut c b held' cut' e f in
      subst (λ (r : Region). Logs n k ws (region held cut) k ws r) (ap₂ (λ (x y : List ℕ). region x y) (sym a.1) (sym a.2))
      (logs-none n k ws (region held cut) w)

-- ---- whether an atom was decided
module _ (n : ℕ) (r q : Region) (c : ℕ) (e : decide n r c ≡ some q) (s : Sound n r) where
  pub decided-grown : Contains q r
  decided-grown x t =
      let d = decide-some n r c q e in
      T_of (ap (λ (y : Region). holds y x) d.2 ∙ holds-mark n r c x s d.0 ∙ ap (λ (b : Bool). b || eqb x c) (T_true (holds r x) t))

  -- the literal held already: no atom
  pub decided-already : marking n r c ≡ Already → false ≡ decides n r q
  decided-already m = sym (ap (decides n r) (marked-already n r c q e m) ∙ decides-none n r)

  -- it did not: its atom
  pub decided-anew : marking n r c ≡ Anew → true ≡ decides n r q
  decided-anew m = sym (decides-anew n r q c e s (marked-anew n r c q e m))

-- ---- what the code's answer says of it
-- neither sort of mark is a false decision
pub marked-yes : (k : Marking) → (k ≡ False → ⊥) → answer_in k ≡ true
marked-yes Anew o = refl
marked-yes Already o = refl
marked-yes False o = absurd (o refl)

module _ (n : ℕ) (held cut : List ℕ) (c : ℕ) (k : Marking) (held' cut' : List ℕ) (q : k ≡ marking n (region held cut) c)
    (e : decision_with (answer_in k) held' cut' ≡ decision_on n held cut c) (t : T (is_region n (region held cut))) where
  abbrev before : Region
  before = region held cut

  made : answer_in k ≡ true → decide n (region held cut) c ≡ some (region held' cut')
  made a = answer-some n held cut c (answer_in k) held' cut' e a

  -- more are noted than were exactly if an atom was decided
  pub decided-counts : (k ≡ False → ⊥) → (d d' : ℕ) → d' ≡ after_mark k d → Counted n d d' (region held cut) (region held' cut')
  decided-counts o d d' a = go k refl a
    where
      sound : Sound n (region held cut)
      sound = sound-of n (region held cut) t

      go : (x : Marking) → k ≡ x → d' ≡ after_mark x d → Counted n d d' (region held cut) (region held' cut')
      go Anew y a = record {
        up = omega arith;
        more = lt-ltb d d' (omega arith)
            ∙ decided-anew n before (region held' cut') c (made (ap answer_in y)) sound (sym q ∙ y);
        grown = decided-grown n before (region held' cut') c (made (ap answer_in y)) sound;
      }
      go Already y a = record {
        up = omega arith;
        more = le-ltb d d' (omega arith)
            ∙ decided-already n before (region held' cut') c (made (ap answer_in y)) sound (sym q ∙ y);
        grown = decided-grown n before (region held' cut') c (made (ap answer_in y)) sound;
      }
      go False y a = absurd (o y)

  pub noted-earns : (k ≡ False → ⊥) → (d d' : ℕ) → d' ≡ after_mark k d → (m : Meter) (l : Beside)
      → ltb d d' ≡ earns n (region held cut) (going (state l held' cut' m))
  unfolding earns
  noted-earns o d d' a m l = (decided-counts o d d' a).more

-- a Conflict, whatever was decided
pub conflict-earns : (n : ℕ) (old : Region) (s : State) → true ≡ earns n old (conflict s)
unfolding earns
conflict-earns n old s = refl
