-- The second half: Closed is the smallest closed region; ledgers that force alike close alike. Assumes nothing.
use mathlib.Core.Path.{◌≡◌, refl, sym, ◌∙◌, ap, ap₂, subst}
use mathlib.Core.Logic.{inl, inr, ◌↔◌}
use mathlib.Core.Bool.{Bool, true, false, ◌&&◌}
use mathlib.Core.List.{List, [], ◌∷◌}
use mathlib.Core.Option.{Option, none, some}
use Prim.Native.Nat.{ℕ, zero, suc, ◌+◌, ◌*◌, ◌%◌, ◌≤◌}
use native.Mathlib.Nat.{le_trans}
use native.Mathlib.Omega.{arith}
use lib.Dec.{T, eqb, leb, leb→le}
use lib.ListN.{length, drop}
use Rattle.lists.proofs.Bools.{bool-ext}
use Rattle.words.specs.Literal.{is_present}
use Rattle.words.specs.Region.{Region, has, holds, is_region, atoms_ok, region}
use Rattle.words.proofs.Regions.{Sound, sound-of, has-ext}
use Rattle.words.proofs.Literals.{atom-even, atom-odd}
use Rattle.meter.specs.declared.Meter.{Meter}
use Rattle.model.specs.declared.LearningLimits.{LearningLimits}
use Rattle.model.specs.declared.CloseAnswer.TheVariants.{Conflict, Closed}
use Rattle.model.specs.Records.{Row, rows_of, limits_ok, slot_words, max_rows}
use Rattle.model.specs.Slots.{entries_in}
use Rattle.model.specs.Refusals.{Lent, ledger_in, refusal, accepts, contents_ok, counts_ok}
use Rattle.model.specs.Answers.{Reply, refused, answered, named, close_reply}
use Rattle.model.specs.Operations.{CloseEnd, close_end, unclosed, closed_by, close, region_ok}
use Rattle.model.specs.Closing.{Turn, going, conflict, halted, closing}
use Rattle.model.specs.Priority.{Contains, ClosedFor, NoneClosed, Ended, Right, ClosesRight, CloseAlike, SecondHalf, Demand3}
use Rattle.model.proofs.Cover.{and_left, and_right}
use Rattle.model.proofs.Priority.Covering.{rows_e}
use Rattle.model.proofs.Priority.Retaining.{Alike}
use Rattle.model.proofs.Priority.Steps.{Over, Accepted, accepted, refusal-cons, rows_ok, row-over, fine-in}
use Rattle.model.proofs.Priority.Conditions.{force-iff}
use Rattle.model.proofs.Priority.Closed.{closed-covered}
use Rattle.model.proofs.Priority.Inside.{no_both}
use Rattle.model.proofs.Priority.Ends.{close-end, atoms-ok, region-ok, atoms-in, IsClosed}
use Rattle.model.proofs.Priority.Settling.{holds-present, holds-absent}
use Rattle.model.proofs.Priority.Rounds.{OnGoing, closing-closed}
use Rattle.model.proofs.Priority.First.{first-half}

-- ---- an accepted ledger has at most max_rows rows
entries-long : (n : ℕ) (ws : List ℕ) → length (rows_e (entries_in n ws)) ≡ n
unfolding entries_in
entries-long zero ws = refl
entries-long (suc n) ws = ap suc (entries-long n (drop slot_words ws))

tier-ok : (l : LearningLimits) → T (limits_ok l) → l.tier_rows ≤ max_rows
unfolding limits_ok
tier-ok l t =
    let a = and_left (leb 1 l.tier_rows && leb l.tier_rows max_rows) _ (and_right (atoms_ok l.atoms) _ t) in
    leb→le l.tier_rows max_rows (and_right (leb 1 l.tier_rows) (leb l.tier_rows max_rows) a)

rows_few : (s : Lent) → Accepted s → s.header.rows ≤ s.header.limits.tier_rows
unfolding contents_ok counts_ok
rows_few s a =
    leb→le s.header.rows s.header.limits.tier_rows
    (and_left (leb s.header.rows s.header.limits.tier_rows) _ (and_left (counts_ok s.header) _ a.contents))

few-rows : (s : Lent) → Accepted s → length (rows_e (ledger_in s).entries) ≤ max_rows
unfolding ledger_in
few-rows s a =
    subst (λ (k : ℕ). k ≤ max_rows) (sym (entries-long s.header.rows s.slots))
    (le_trans (rows_few s a) (tier-ok s.header.limits a.limits))

-- ---- Closed is closed
abbrev NotRefused : Reply → Type 0
NotRefused (refused k) = ⊥
NotRefused (answered c v) = Unit {0}
NotRefused (named c v o) = Unit {0}

pub record Shut (s : Lent) (e : CloseEnd) : Type 0 where
  pub closed : e.answer ≡ close_reply Closed → ClosedFor (rows_e (ledger_in s).entries) e.region
  pub taken : NotRefused e.answer → Accepted s

turn-closed : (rows : List Row) (x y : List ℕ) (m : Meter) (t : Turn) → OnGoing (λ u. ClosedFor rows u.region) t
    → (closed_by t x y m).answer ≡ close_reply Closed
    → ClosedFor rows
    (closed_by t x y m).region
unfolding close_end
turn-closed rows x y m (going u) i e = i
turn-closed rows x y m (conflict u) i e = absurd (subst IsClosed (sym e) tt)
turn-closed rows x y m (halted u) i e = absurd (subst IsClosed (sym e) tt)

pub close-shut : (s : Lent) (held cut x y : List ℕ) (m : Meter) → Shut s (close s held cut x y m)
unfolding close
close-shut s held cut x y m = go (refusal tests) refl
  where
    tests : List (Bool × ℕ)
    tests =
        accepts s (eqb (length x) s.header.limits.tier_rows && eqb (length y) s.header.limits.atoms)
        ((region_ok s held cut, 6) ∷ [])

    go : (o : Option ℕ) → refusal tests ≡ o → Shut s (elim o as (λ k. CloseEnd)
        [ some n ↦ unclosed n s held cut x y m | none ↦ closed_by (closing (ledger_in s) (region held cut) m) x y m ])
    go (some k) e = record { closed = λ q. absurd (subst IsClosed (sym q) tt); taken = λ z. absurd z }
    go none e =
        let a = accepted s (eqb (length x) s.header.limits.tier_rows && eqb (length y) s.header.limits.atoms)
        ((region_ok s held cut, 6) ∷ []) e in
        record {
          closed = turn-closed (rows_e (ledger_in s).entries) x y m (closing (ledger_in s) (region held cut) m)
              (closing-closed s.header.limits.atoms (rows_e (ledger_in s).entries) (fine-in s a.0) (ledger_in s) (region held cut) m
              (few-rows s a.0) (atoms-in s) refl (region-ok s held cut (refusal-cons (region_ok s held cut) 6 [] a.1).0));
          taken = λ z. a.0;
        }

-- ---- one closing
pub right_end : (s : Lent) (held cut x y : List ℕ) (m : Meter)
    → Right s.header.limits.atoms (rows_e (ledger_in s).entries) (region held cut) (close s held cut x y m)
unfolding rows_of
right_end s held cut x y m =
    let a = close-end s held cut x y m in
    let b = close-shut s held cut x y m in
    record {
      if_closed = λ e. let k = a.if_closed e in record { is_a = k.is_a; contains = k.contains; closed = b.closed e; least = k.least };
      if_conflict = a.if_conflict;
    }

-- ---- two regions with the same literals have the same words
odd-present : (a : ℕ) → is_present (2 * a + 1) ≡ true
unfolding is_present
odd-present a = let e : (2 * a + 1) % 2 ≡ 1 = omega arith in ap (λ (k : ℕ). eqb k 1) e

even-absent : (a : ℕ) → is_present (2 * a) ≡ false
unfolding is_present
even-absent a = let e : (2 * a) % 2 ≡ 0 = omega arith in ap (λ (k : ℕ). eqb k 1) e

pub region-ext : (n : ℕ) (r q : Region) → Sound n r → Sound n q → Contains q r → Contains r q → r ≡ q
region-ext n r q g h a b =
    ap₂ {C = Region} (λ (x y : List ℕ). record { held = x; cut = y })
    (has-ext r.held q.held g.held.words h.held.words (g.held.long ∙ sym h.held.long)
    (λ k. sym (held_of r k) ∙ both (2 * k + 1) ∙ held_of q k))
    (has-ext r.cut q.cut g.cut.words h.cut.words (g.cut.long ∙ sym h.cut.long)
    (λ k. sym (cut_of r k) ∙ both (2 * k) ∙ cut_of q k))
  where
    held_of : (r : Region) (k : ℕ) → holds r (2 * k + 1) ≡ has r.held k
    held_of r k = holds-present r (2 * k + 1) (odd-present k) ∙ ap (has r.held) (atom-odd k)

    cut_of : (r : Region) (k : ℕ) → holds r (2 * k) ≡ has r.cut k
    cut_of r k = holds-absent r (2 * k) (even-absent k) ∙ ap (has r.cut) (atom-even k)

    both : (c : ℕ) → holds r c ≡ holds q c
    both c = bool-ext (holds r c) (holds q c) (a c) (b c)

-- ---- two closings
ended-taken : (a : Reply) → Ended a → NotRefused a
ended-taken a (inl e) = subst NotRefused (sym e) tt
ended-taken a (inr e) = subst NotRefused (sym e) tt

over-in : (s : Lent) → Accepted s → Over s.header.limits.atoms (rows_e (ledger_in s).entries)
over-in s a r i = row-over s.header.limits.atoms r (rows_ok s a r i)

-- rows closed alike on every region
abbrev ClosesAlike : ℕ → List Row → List Row → Type 0
ClosesAlike n us vs = (d : Region) → T (is_region n d) → ClosedFor us d ↔ ClosedFor vs d

alike_end : (n : ℕ) (us vs : List Row) (r : Region) (x y : CloseEnd) → ClosesAlike n us vs → Ended x.answer → Ended y.answer
    → Right n us r x → Right n vs r y → CloseAlike n us vs r x y
alike_end n us vs r x y f a b p q = record {
  answer = go a b;
  conflict = (p.if_conflict, none a);
  smallest = p.if_closed;
  words = λ e. word e b;
  closed = f;
}
  where
    go : Ended x.answer → Ended y.answer → x.answer ≡ y.answer
    go (inl e) (inl z) = e ∙ sym z
    go (inl e) (inr z) =
        let c = p.if_closed e in
        absurd (q.if_conflict z x.region c.is_a ((f x.region c.is_a).0 c.closed) c.contains)
    go (inr e) (inl z) =
        let c = q.if_closed z in
        absurd (p.if_conflict e y.region c.is_a ((f y.region c.is_a).1 c.closed) c.contains)
    go (inr e) (inr z) = e ∙ sym z

    none : Ended x.answer → NoneClosed n us r → x.answer ≡ close_reply Conflict
    none (inl e) h = let c = p.if_closed e in absurd (h x.region c.is_a c.closed c.contains)
    none (inr e) h = e

    word : x.answer ≡ close_reply Closed → Ended y.answer → x.region ≡ y.region
    word e (inl z) =
        let c = p.if_closed e in
        let d = q.if_closed z in
        region-ext n x.region y.region (sound-of n x.region c.is_a) (sound-of n y.region d.is_a)
        (c.least y.region d.is_a ((f y.region d.is_a).1 d.closed) d.contains)
        (d.least x.region c.is_a ((f x.region c.is_a).0 c.closed) c.contains)
    word e (inr z) =
        let c = p.if_closed e in
        absurd (q.if_conflict z x.region c.is_a ((f x.region c.is_a).0 c.closed) c.contains)

closes-alike : (n : ℕ) (us vs : List Row) → Over n us → Over n vs → Alike us vs → ClosesAlike n us vs
closes-alike n us vs ou ov k d t =
    let s = sound-of n d t in
    (λ c. closed-covered n us vs ou k.there d (no_both n d s) c, λ c. closed-covered n vs us ov k.back d (no_both n d s) c)

pub second-half : SecondHalf
unfolding rows_of
second-half s t held cut x y v w m k e a b f =
    let as' = (close-shut s held cut x y m).taken (ended-taken (close s held cut x y m).answer a) in
    let at = (close-shut t held cut v w k).taken (ended-taken (close t held cut v w k).answer b) in
    let os = over-in s as' in
    let ot = subst (λ (n : ℕ). Over n (rows_e (ledger_in t).entries)) (sym e) (over-in t at) in
    alike_end s.header.limits.atoms (rows_e (ledger_in s).entries) (rows_e (ledger_in t).entries) (region held cut)
    (close s held cut x y m) (close t held cut v w k)
    (closes-alike s.header.limits.atoms (rows_e (ledger_in s).entries) (rows_e (ledger_in t).entries) os ot
    ((force-iff s.header.limits.atoms (rows_e (ledger_in s).entries) (rows_e (ledger_in t).entries) (atoms-ok s as') os ot).0 f))
    a b (right_end s held cut x y m)
    (subst (λ (n : ℕ). Right n (rows_e (ledger_in t).entries) (region held cut) (close t held cut v w k)) (sym e)
    (right_end t held cut v w k))

-- every closing ends right, with evictions or without
pub closes-right : ClosesRight
unfolding rows_of
closes-right s held cut x y m = right_end s held cut x y m

pub demand3 : Demand3
demand3 = record { first = first-half; second = second-half }
