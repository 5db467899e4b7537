-- What `&&`, `||` and `not` say of their sides, as tests and as facts. Assumes nothing.
use mathlib.Core.Path.{◌≡◌, refl, sym, ◌∙◌, subst}
use mathlib.Core.Bool.{Bool, true, false, not, ◌&&◌, ◌||◌, true≢false, false≢true}
use lib.Dec.{T}

-- ---- both, and not both
pub and_both : (x y : Bool) → (x && y) ≡ true → (x ≡ true) × (y ≡ true)
and_both true y e = (refl, e)
and_both false y e = absurd (false≢true e)

pub and_yes : (x y : Bool) → x ≡ true → y ≡ true → (x && y) ≡ true
and_yes x y d e = rw (d, e)

pub and-false : (x : Bool) → (x && false) ≡ false
and-false true = refl
and-false false = refl

pub no-left : (x y : Bool) → x ≡ false → (x && y) ≡ false
no-left x y e = rw e

pub no-right : (x y : Bool) → y ≡ false → (x && y) ≡ false
no-right x y e = rw e (and-false x)

pub and_assoc : (x y z : Bool) → ((x && y) && z) ≡ (x && (y && z))
and_assoc true y z = refl
and_assoc false y z = refl

pub and_first : (x y : Bool) → (x && y) ≡ false → x ≡ true → y ≡ false
and_first true y e p = e
and_first false y e p = absurd (false≢true p)

pub and_second : (x y : Bool) → (x && y) ≡ false → y ≡ true → x ≡ false
and_second true y e p = absurd (true≢false (sym p ∙ e))
and_second false y e p = refl

pub not-both : (x y : Bool) → (x ≡ true → y ≡ true → ⊥) → (x && y) ≡ false
not-both true true f = absurd (f refl refl)
not-both true false f = refl
not-both false y f = refl

pub and-not-both : (x y : Bool) → (x && not y) ≡ true → (x ≡ true) × (y ≡ false)
and-not-both true true e = absurd (false≢true e)
and-not-both true false e = (refl, refl)
and-not-both false y e = absurd (false≢true e)

-- ---- neither, and the one that is left
pub or-none : (x y : Bool) → (x || y) ≡ false → (x ≡ false) × (y ≡ false)
or-none true y e = absurd (true≢false e)
or-none false y e = (refl, e)

pub or_assoc : (x y z : Bool) → ((x || y) || z) ≡ (x || (y || z))
or_assoc true y z = refl
or_assoc false y z = refl

pub or_left : (x y : Bool) → (x || y) ≡ true → y ≡ false → x ≡ true
or_left true y e p = refl
or_left false y e p = absurd (true≢false (sym e ∙ p))

pub or_right : (x y : Bool) → (x || y) ≡ true → x ≡ false → y ≡ true
or_right true y e p = absurd (true≢false p)
or_right false y e p = e

-- ---- the other value
pub false_of : (x : Bool) → (x ≡ true → ⊥) → x ≡ false
false_of true f = absurd (f refl)
false_of false f = refl

-- ---- a test as a fact, and back
pub T_true : (x : Bool) → T x → x ≡ true
T_true true t = refl
T_true false t = absurd t

pub T_of : {x : Bool} → x ≡ true → T x
T_of e = subst T (sym e) tt

pub and-of : (x y : Bool) → T x → T y → T (x && y)
and-of true y t u = u
and-of false y t u = t

pub or_l : (x y : Bool) → T x → T (x || y)
or_l true y t = tt
or_l false y t = absurd t

pub or_r : (x y : Bool) → T y → T (x || y)
or_r true y t = tt
or_r false y t = t

pub not-of : (x : Bool) → x ≡ false → T (not x)
not-of true e = subst (λ (y : Bool). T (not y)) (sym e) tt
not-of false e = tt

pub bool-ext : (x y : Bool) → (T x → T y) → (T y → T x) → x ≡ y
bool-ext true true f g = refl
bool-ext true false f g = absurd (f tt)
bool-ext false true f g = absurd (g tt)
bool-ext false false f g = refl
