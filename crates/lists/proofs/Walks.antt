-- A walk along a list by its runs: it ascends, is as long as ys, and has no run longer than the word stands in ys, exactly if
-- it is ys sorted. Assumes nothing.
use mathlib.Core.List.{List}
use mathlib.Core.Logic.{◌⊎◌, inl, inr}
use mathlib.Core.Path.{◌≡◌, refl, sym, ap, ◌∙◌}
use Prim.Native.Nat.{ℕ, zero, suc, ◌+◌, ◌≤◌, ◌<◌}
use native.Mathlib.Numerals.{add-one}
use native.Mathlib.Omega.{arith}
use lib.ListN.{length, get_or, take, length-take}
use lib.Seq.{take-suc, take_all}
use borrow.Author.Tests.{eq-eqb, ne_eqb}
use Rattle.lists.specs.Counts.{is, times, Each, Sorted}
use Rattle.lists.specs.Lists.{sort_of}
use Rattle.lists.specs.Runs.{run_after}
use Rattle.lists.specs.declared.runs.Run.{Run}
use Rattle.lists.proofs.Counts.{same_or, is_le, is_same, is_pos, times_more, times-le, times-take-le, each_none}
use Rattle.lists.proofs.Sorts.{sorted-snoc, sorted_before, sort-perm, sort_sorted, sort-full}

pub word_after : (r : Run) (x : ℕ) → (run_after r x).word ≡ x
unfolding run_after
word_after r x = refl

pub times-same : (r : Run) (x : ℕ) → x ≡ r.word → (run_after r x).times ≡ r.times + 1
unfolding run_after
times-same r x e = rw (eq-eqb x r.word e, run_after)

pub times-new : (r : Run) (x : ℕ) → (x ≡ r.word → ⊥) → (run_after r x).times ≡ 1
unfolding run_after
times-new r x n = rw (ne_eqb x r.word n, run_after)

-- after the first i words of xs
pub record Checked (xs ys : List ℕ) (run : Run) (i : ℕ) : Type 0 where
  pub far : i ≤ length xs
  pub long : length xs ≡ length ys
  pub sorted : Sorted (take i xs)
  pub top : Each (λ v. v ≤ run.word) (take i xs)
  pub held : 1 ≤ run.word → 1 ≤ times run.word (take i xs)
  pub runs : run.times ≡ times run.word (take i xs)
  pub few : (v : ℕ) → times v (take i xs) ≤ times v ys

pub checked-start : (xs ys : List ℕ) → length xs ≡ length ys → Checked xs ys (record { word = 0; times = 0 }) 0
checked-start xs ys e = record {
  far = omega arith;
  long = e;
  sorted = tt;
  top = λ v h. absurd (omega arith);
  held = λ h. absurd (omega arith);
  runs = refl;
  few = λ v. omega arith;
}

pub checked-small : (xs ys : List ℕ) (run : Run) (i : ℕ) → Checked xs ys run i → run.times ≤ i
checked-small xs ys run i c = omega (arith, c.runs, times-le run.word (take i xs), length-take i xs)

module _ (xs ys : List ℕ) (run : Run) (i : ℕ) where
  -- a word below the one before it
  pub checked-back : Checked xs ys run i → i < length xs → get_or xs i 0 < run.word → xs ≡ sort_of ys → ⊥
  checked-back c l h e =
      omega (arith, sorted_before xs i run.word (rw e (sort_sorted ys)) l (c.held (omega arith)))

  run-times : Checked xs ys run i → run.word ≤ get_or xs i 0 →
      (run_after run (get_or xs i 0)).times ≡ times (get_or xs i 0) (take i xs) + 1
  run-times c h = go (same_or (get_or xs i 0) run.word)
    where
      go : (get_or xs i 0 ≡ run.word) ⊎ (get_or xs i 0 ≡ run.word → ⊥) →
          (run_after run (get_or xs i 0)).times ≡ times (get_or xs i 0) (take i xs) + 1
      go (inl e) =
          times-same run (get_or xs i 0) e
          ∙ ap (λ (n : ℕ). n + 1) (c.runs ∙ ap (λ (v : ℕ). times v (take i xs)) (sym e))
      go (inr n) =
          let z = each_none (λ v. v ≤ run.word) (get_or xs i 0) (take i xs) c.top (λ k. n (omega arith)) in
          times-new run (get_or xs i 0) n ∙ omega arith

  -- a word more often than in ys
  pub checked-many : Checked xs ys run i → i < length xs → run.word ≤ get_or xs i 0 →
      times (get_or xs i 0) ys < (run_after run (get_or xs i 0)).times → xs ≡ sort_of ys → ⊥
  checked-many c l p h e =
      let x = get_or xs i 0 in
      let s : times x xs ≡ times x ys = ap (times x) e ∙ sort-perm ys x in
      omega (arith, run-times c p, times_more x xs i l, times-take-le x (i + 1) xs, is_same x)

  pub checked-more : Checked xs ys run i → i < length xs → run.word ≤ get_or xs i 0 →
      (run_after run (get_or xs i 0)).times ≤ times (get_or xs i 0) ys → Checked xs ys (run_after run (get_or xs i 0)) (i + 1)
  checked-more c l p m =
      let x = get_or xs i 0 in
      let w : (run_after run x).word ≡ x = word_after run x in
      let t : (run_after run x).times ≡ times x (take (i + 1) xs) =
      omega (arith, run-times c p, times_more x xs i l, is_same x) in
      record {
        far = omega arith;
        long = c.long;
        sorted = rw (add-one, take-suc xs i 0 l) (sorted-snoc (take i xs) x c.sorted (λ v h. omega (arith, c.top v h)));
        top = rw w (λ v h. upper v (is v x) refl (rw (times_more v xs i l) at h));
        held = λ h. rw w (omega (arith, times_more x xs i l, is_same x));
        runs = rw w t;
        few = λ v. each v (is v x) refl;
      }
    where
      upper : (v n : ℕ) → is v (get_or xs i 0) ≡ n → 1 ≤ times v (take i xs) + is v (get_or xs i 0) → v ≤ get_or xs i 0
      upper v zero f h = omega (arith, c.top v (omega arith))
      upper v (suc n) f h = omega (arith, is_pos v (get_or xs i 0) (omega arith))

      each : (v n : ℕ) → is v (get_or xs i 0) ≡ n → times v (take (i + 1) xs) ≤ times v ys
      each v zero f = omega (arith, times_more v xs i l, c.few v)
      each v (suc k) f =
          rw (is_pos v (get_or xs i 0) (omega arith))
          (omega (arith, times_more (get_or xs i 0) xs i l, run-times c p, is_le (get_or xs i 0) (get_or xs i 0)))

pub checked-end : (xs ys : List ℕ) (run : Run) (i : ℕ) → Checked xs ys run i → length xs ≤ i → xs ≡ sort_of ys
checked-end xs ys run i c h =
    let e : take i xs ≡ xs = take_all i xs h in
    sort-full xs ys (rw e at c.sorted) c.long (λ v. rw e at (c.few v))
