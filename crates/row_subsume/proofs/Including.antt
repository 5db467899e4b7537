-- The looks of `includes`, one by one. Assumes nothing.
use mathlib.Core.Path.{◌≡◌, refl, sym, ◌∙◌, ap}
use mathlib.Core.Bool.{Bool, true, false}
use Rattle.std.specs.Prelude.{Result, Err}
use mathlib.Core.List.{List, [], ◌∷◌}
use Prim.Native.Nat.{ℕ, suc, ◌<◌, compare, Ordering}
use native.Mathlib.Omega.{arith}
use Rattle.meter.specs.declared.Meter.{Meter}
use Rattle.meter.specs.declared.Account.{Account}
use Rattle.meter.specs.declared.Purse.{Purse}
use Rattle.meter.specs.declared.Unpaid.{Unpaid}
use Rattle.meter.specs.Judged.{Judged}
use Rattle.meter.specs.Read.{Paid}
use Rattle.meter.specs.Meter.{pay_one, pay, judged}
use Rattle.meter.specs.Results.{unpaid_end, judged_end}
use Rattle.model.specs.Rows.{includes, includes_reads}
use Rattle.row_subsume.proofs.Compare.{compare-lt, compare-eq, compare-gt}
use Rattle.meter.proofs.Payments.{ask-one, paid-one}

-- the question, asked of what is left of both lists
abbrev pub included : List ℕ → List ℕ → Account → Meter → Judged
included cs ws a m = judged (includes cs ws) (pay (includes_reads cs ws) a m)

-- nothing is wanted any more
pub include-all : (cs : List ℕ) (a : Account) (m : Meter) {l : List ℕ} → [] ≡ l → judged true (Paid a m) ≡ included cs l a m
unfolding includes includes_reads pay
include-all cs a m e = none cs ∙ ap (λ (l : List ℕ). included cs l a m) e
  where
    none : (cs : List ℕ) → judged true (Paid a m) ≡ included cs [] a m
    none [] = refl
    none (c ∷ cs) = refl

reads-some : (cs : List ℕ) (w : ℕ) (ws : List ℕ) → 0 < includes_reads cs (w ∷ ws)
unfolding includes_reads
reads-some [] w ws = omega arith
reads-some (c ∷ cs) w ws = go (compare c w)
  where
    go : (o : Ordering)
        → 0 < (elim o [ Ordering.lt ↦ suc (includes_reads cs (w ∷ ws)) | Ordering.eq ↦ suc (includes_reads cs ws) | Ordering.gt ↦ 1 ])
    go Ordering.lt = omega arith
    go Ordering.eq = omega arith
    go Ordering.gt = omega arith

module _ (w : ℕ) (ws : List ℕ) (a : Account) (m : Meter) where
  -- the look is not paid
  pub include-unpaid : (cs : List ℕ) (p : Purse) {r : Result Bool Unpaid} {e : Unpaid} → r ≡ Err e → unpaid_end e p ≡ pay_one a m
      → judged_end r p ≡ included cs (w ∷ ws) a m
  include-unpaid cs p f e = ask-one (includes cs (w ∷ ws)) (includes_reads cs (w ∷ ws)) a m p f (reads-some cs w ws) e

  module _ {p : Account} {q : Meter} (e : Paid p q ≡ pay_one a m) where
    paid : (b : Bool) (n : ℕ) → judged b (pay n p q) ≡ judged b (pay (suc n) a m)
    paid b n = ap (judged b) (paid-one n a m e)

    -- the look finds the end
    pub include-none : {l : List ℕ} → [] ≡ l → judged false (Paid p q) ≡ included l (w ∷ ws) a m
    unfolding includes includes_reads pay
    include-none f = paid false 0 ∙ ap (λ (l : List ℕ). included l (w ∷ ws) a m) f

    -- it finds a candidate: less, equal, greater
    module _ {l : List ℕ} (c : ℕ) (cs : List ℕ) (f : c ∷ cs ≡ l) where
      abbrev looked : Ordering → Judged
      looked o =
          judged (elim o [ Ordering.lt ↦ includes cs (w ∷ ws) | Ordering.eq ↦ includes cs ws | Ordering.gt ↦ false ])
          (pay (elim o [ Ordering.lt ↦ suc (includes_reads cs (w ∷ ws)) | Ordering.eq ↦ suc (includes_reads cs ws) | Ordering.gt ↦ 1 ]) a m)

      look : {o : Ordering} → compare c w ≡ o → looked o ≡ included l (w ∷ ws) a m
      unfolding includes includes_reads
      look h = ap looked (sym h) ∙ ap (λ (l : List ℕ). included l (w ∷ ws) a m) f

      pub include-less : c < w → included cs (w ∷ ws) p q ≡ included l (w ∷ ws) a m
      include-less h = paid (includes cs (w ∷ ws)) (includes_reads cs (w ∷ ws)) ∙ look (compare-lt c w h)

      pub include-equal : c ≡ w → included cs ws p q ≡ included l (w ∷ ws) a m
      include-equal h = paid (includes cs ws) (includes_reads cs ws) ∙ look (compare-eq c w h)

      pub include-greater : w < c → judged false (Paid p q) ≡ included l (w ∷ ws) a m
      unfolding pay
      include-greater h = paid false 0 ∙ look (compare-gt c w h)
