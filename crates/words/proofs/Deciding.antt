-- Literals on a region: `holds`, `contradicts` and `decide`, by atom and sign. Assumes nothing.
use mathlib.Core.Path.{◌≡◌, refl, sym, ap, ap₂, ◌∙◌, subst}
use mathlib.Core.Logic.{◌⊎◌, inl, inr}
use mathlib.Core.Bool.{Bool, true, false, not, ◌&&◌, ◌||◌, true≢false, false≢true, and-false, or-false}
use mathlib.Core.List.{List}
use mathlib.Core.Option.{Option, none, some}
use Prim.Native.Nat.{ℕ, ◌+◌, ◌*◌, ◌/◌, ◌%◌, ◌≤◌, ◌<◌}
use native.Mathlib.Decide.{ℕ_discrete}
use native.Mathlib.Omega.{arith}
use lib.Bits.{bit_and, bit_or}
use lib.ListN.{length, get_or, set}
use lib.Dec.{eqb, ltb}
use borrow.Author.Tests.{eq-eqb, ne_eqb, lt-ltb, le-ltb, ltb-true, not-true}
use Rattle.lists.proofs.Bools.{and_both, or_left, false_of}
use Rattle.words.specs.Bit.{test_bit}
use Rattle.words.specs.Literal.{atom, is_present, code, opposite, word_of, place_of}
use Rattle.words.specs.Region.{has, mark, Region, region, holds, contradicts, mark_literal, decide, Decision, decision, decision_on}
use Rattle.words.specs.Region.{decision_with, marked_as, marking, answer_in, words_for}
use Rattle.words.specs.declared.Place.{Place}
use Rattle.words.specs.declared.Marking.{Marking}
use Rattle.words.specs.declared.Marking.TheVariants.{Anew, Already, False}
use Rattle.words.proofs.Literals.{atom-code, present-code, same_sign, other_sign, opposite-code, atom-opposite, present-opposite}
use Rattle.words.proofs.Places.{contains-place, insert-place}
use Rattle.words.proofs.Regions.{Set, Sound, has-mark, length-mark, words-mark, mark-again, at_place}

-- ---- the side that a literal asks
module _ (r : Region) (c : ℕ) where
  pub holds-present : is_present c ≡ true → holds r c ≡ has r.held (atom c)
  unfolding holds
  holds-present e = rw (e, holds)

  pub holds-absent : is_present c ≡ false → holds r c ≡ has r.cut (atom c)
  unfolding holds
  holds-absent e = rw (e, holds)

  pub mark-present : is_present c ≡ true → mark_literal r c ≡ region (mark r.held (atom c)) r.cut
  unfolding mark_literal
  mark-present e = rw (e, mark_literal)

  pub mark-absent : is_present c ≡ false → mark_literal r c ≡ region r.held (mark r.cut (atom c))
  unfolding mark_literal
  mark-absent e = rw (e, mark_literal)

module _ (r : Region) (c : ℕ) where
  pub contradicts-present : is_present c ≡ true → contradicts r c ≡ has r.cut (atom c)
  unfolding contradicts
  contradicts-present e = holds-absent r (opposite c) (present-opposite c ∙ ap not e) ∙ ap (has r.cut) (atom-opposite c)

  pub contradicts-absent : is_present c ≡ false → contradicts r c ≡ has r.held (atom c)
  unfolding contradicts
  contradicts-absent e = holds-present r (opposite c) (present-opposite c ∙ ap not e) ∙ ap (has r.held) (atom-opposite c)

  -- ---- the code's tests of a literal
  pub holds-odd : c % 2 ≡ 1 → has r.held (c / 2) ≡ holds r c
  unfolding is_present atom
  holds-odd e = sym (holds-present r c (eq-eqb (c % 2) 1 e))

  pub holds-even : (c % 2 ≡ 1 → ⊥) → has r.cut (c / 2) ≡ holds r c
  unfolding is_present atom
  holds-even f = sym (holds-absent r c (ne_eqb (c % 2) 1 f))

  pub contradicts-odd : c % 2 ≡ 1 → has r.cut (c / 2) ≡ contradicts r c
  unfolding is_present atom
  contradicts-odd e = sym (contradicts-present (eq-eqb (c % 2) 1 e))

  pub contradicts-even : (c % 2 ≡ 1 → ⊥) → has r.held (c / 2) ≡ contradicts r c
  unfolding is_present atom
  contradicts-even f = sym (contradicts-absent (ne_eqb (c % 2) 1 f))

-- ---- the literals of word x at place i
module _ (r : Region) (x i : ℕ) where
  pub holds-at-present : i < 64 → holds r (code (x * 64 + i) true) ≡ test_bit (get_or r.held x 0) i
  holds-at-present l =
      holds-present r (code (x * 64 + i) true) (present-code (x * 64 + i) true) ∙ ap (has r.held) (atom-code (x * 64 + i) true)
      ∙ at_place r.held x i l

  pub holds-at-absent : i < 64 → holds r (code (x * 64 + i) false) ≡ test_bit (get_or r.cut x 0) i
  holds-at-absent l =
      holds-absent r (code (x * 64 + i) false) (present-code (x * 64 + i) false) ∙ ap (has r.cut) (atom-code (x * 64 + i) false)
      ∙ at_place r.cut x i l

module _ (r : Region) (x i : ℕ) where
  pub contradicts-at-present : i < 64 → contradicts r (code (x * 64 + i) true) ≡ test_bit (get_or r.cut x 0) i
  unfolding contradicts
  contradicts-at-present l = ap (holds r) (opposite-code (x * 64 + i) true) ∙ holds-at-absent r x i l

  pub contradicts-at-absent : i < 64 → contradicts r (code (x * 64 + i) false) ≡ test_bit (get_or r.held x 0) i
  unfolding contradicts
  contradicts-at-absent l = ap (holds r) (opposite-code (x * 64 + i) false) ∙ holds-at-present r x i l

-- with the sides exchanged, a literal is true where its opposite was
pub holds-turned : (held cut : List ℕ) (c : ℕ) → holds (region cut held) c ≡ contradicts (region held cut) c
holds-turned held cut c = go (is_present c) refl
  where
    go : (p : Bool) → is_present c ≡ p → holds (region cut held) c ≡ contradicts (region held cut) c
    go true e = holds-present (region cut held) c e ∙ sym (contradicts-present (region held cut) c e)
    go false e = holds-absent (region cut held) c e ∙ sym (contradicts-absent (region held cut) c e)

-- ---- `decide` by its tests
module _ (n : ℕ) (r : Region) (c : ℕ) where
  pub decide-out : n ≤ atom c → decide n r c ≡ none
  unfolding decide
  decide-out h = rw (le-ltb (atom c) n h, decide)

  pub decide-against : contradicts r c ≡ true → decide n r c ≡ none
  unfolding decide
  decide-against e = rw (e, and-false (ltb (atom c) n), decide)

  pub decide-marks : atom c < n → contradicts r c ≡ false → decide n r c ≡ some (mark_literal r c)
  unfolding decide
  decide-marks h e = rw (lt-ltb (atom c) n h, e, decide)

  -- a literal decided: it is in range, its opposite is not marked, and the region has it
  pub decide-some : (s : Region) → decide n r c ≡ some s → (atom c < n) × (contradicts r c ≡ false) × (s ≡ mark_literal r c)
  unfolding decide
  decide-some s e = go (ltb (atom c) n && not (contradicts r c)) refl e
    where
      go : (b : Bool) → (ltb (atom c) n && not (contradicts r c)) ≡ b → elim b as (λ k. Option Region) [
        | true ↦ some (mark_literal r c)
        | false ↦ none
      ] ≡ some s
          → (atom c < n) × (contradicts r c ≡ false) × (s ≡ mark_literal r c)
      go true t q =
          let both = and_both (ltb (atom c) n) (not (contradicts r c)) t in
          (ltb-true (atom c) n both.0, not-true (contradicts r c) both.1, cc)
      go false t q = absurd (let z : ◌≡◌ {A = ℕ} 0 1 = cc in omega arith)

-- ---- the region after a decision
-- an atom in range has a word
pub word-inside : (n a k : ℕ) → k ≡ words_for n → a < n → word_of a < k
unfolding words_for word_of
word-inside n a k e h = omega arith

marked : (ws : List ℕ) (a b : ℕ) → word_of a < length ws → has (mark ws a) b ≡ true → (has ws b ≡ true) ⊎ (b ≡ a)
unfolding word_of
marked ws a b l e =
    elim (ℕ_discrete b a) [
      | yes q ↦ inr q
      | no f ↦ inl (or_left (has ws b) (eqb b a) (sym (has-mark ws a b l) ∙ e) (ne_eqb b a f))
    ]

set-mark : (n : ℕ) (ws : List ℕ) (a : ℕ) → Set n ws → a < n → Set n (mark ws a)
set-mark n ws a s h = record {
  long = length-mark ws a ∙ s.long;
  words = words-mark ws a s.words;
  inside = λ b e. go b (marked ws a b (word-inside n a (length ws) s.long h) e);
}
  where
    go : (b : ℕ) → (has ws b ≡ true) ⊎ (b ≡ a) → b < n
    go b (inl t) = s.inside b t
    go b (inr q) = subst (λ (x : ℕ). x < n) (sym q) h

-- two sets with no common atom, one of them with an atom more that the other lacks
apart-mark : (n : ℕ) (ws vs : List ℕ) (a : ℕ) → Set n ws → a < n → has vs a ≡ false
    → ((b : ℕ) → has ws b ≡ true → has vs b ≡ true → ⊥) → (b : ℕ) → has (mark ws a) b ≡ true → has vs b ≡ true → ⊥
apart-mark n ws vs a s h free f b p q = go (marked ws a b (word-inside n a (length ws) s.long h) p)
  where
    go : (has ws b ≡ true) ⊎ (b ≡ a) → ⊥
    go (inl t) = f b t q
    go (inr e) = false≢true (sym free ∙ ap (has vs) (sym e) ∙ q)

module _ (n : ℕ) (r : Region) (c : ℕ) where
  pub sound-mark : Sound n r → atom c < n → contradicts r c ≡ false → Sound n (mark_literal r c)
  sound-mark s h free = go (is_present c) refl
    where
      go : (p : Bool) → is_present c ≡ p → Sound n (mark_literal r c)
      go true e =
          rw (mark-present r c e)
          (record {
            held = set-mark n r.held (atom c) s.held h;
            cut = s.cut;
            apart = apart-mark n r.held r.cut (atom c) s.held h (sym (contradicts-present r c e) ∙ free) s.apart;
          })
      go false e =
          rw (mark-absent r c e)
          (record {
            held = s.held;
            cut = set-mark n r.cut (atom c) s.cut h;
            apart = λ b p q. apart-mark n r.cut r.held (atom c) s.cut h (sym (contradicts-absent r c e) ∙ free)
                (λ d x y. s.apart d y x) b q p;
          })

  -- it has the literal, and those it had
  pub holds-mark : (d : ℕ) → Sound n r → atom c < n → holds (mark_literal r c) d ≡ (holds r d || eqb d c)
  unfolding word_of
  holds-mark d s h = go (is_present c) (is_present d) refl refl
    where
      same : (ws : List ℕ) → Set n ws → is_present d ≡ is_present c → has (mark ws (atom c)) (atom d) ≡ (has ws (atom d) || eqb d c)
      same ws t e =
          has-mark ws (atom c) (atom d) (word-inside n (atom c) (length ws) t.long h)
          ∙ ap (λ (b : Bool). has ws (atom d) || b) (same_sign d c e)

      other : (is_present d ≡ is_present c → ⊥) → holds r d ≡ (holds r d || eqb d c)
      other f = sym (ap (λ (b : Bool). holds r d || b) (other_sign d c f) ∙ or-false (holds r d))

      go : (x y : Bool) → is_present c ≡ x → is_present d ≡ y → holds (mark_literal r c) d ≡ (holds r d || eqb d c)
      go true true p q =
          ap (λ (k : Region). holds k d) (mark-present r c p) ∙ holds-present (region (mark r.held (atom c)) r.cut) d q
          ∙ same r.held s.held (q ∙ sym p) ∙ ap (λ (b : Bool). b || eqb d c) (sym (holds-present r d q))
      go true false p q =
          ap (λ (k : Region). holds k d) (mark-present r c p) ∙ holds-absent (region (mark r.held (atom c)) r.cut) d q
          ∙ sym (holds-absent r d q) ∙ other (λ e. false≢true (sym q ∙ e ∙ p))
      go false true p q =
          ap (λ (k : Region). holds k d) (mark-absent r c p) ∙ holds-present (region r.held (mark r.cut (atom c))) d q
          ∙ sym (holds-present r d q) ∙ other (λ e. true≢false (sym q ∙ e ∙ p))
      go false false p q =
          ap (λ (k : Region). holds k d) (mark-absent r c p) ∙ holds-absent (region r.held (mark r.cut (atom c))) d q
          ∙ same r.cut s.cut (q ∙ sym p) ∙ ap (λ (b : Bool). b || eqb d c) (sym (holds-absent r d q))

  pub sound-decide : (t : Region) → Sound n r → decide n r c ≡ some t → Sound n t
  sound-decide t s e = let d = decide-some n r c t e in rw d.2 (sound-mark s d.0 d.1)

  -- a literal of a region is of its atoms, and its opposite is not there
  pub sound-inside : Sound n r → holds r c ≡ true → atom c < n
  sound-inside s t = go (is_present c) refl
    where
      go : (p : Bool) → is_present c ≡ p → atom c < n
      go true e = s.held.inside (atom c) (sym (holds-present r c e) ∙ t)
      go false e = s.cut.inside (atom c) (sym (holds-absent r c e) ∙ t)

  pub sound-apart : Sound n r → holds r c ≡ true → contradicts r c ≡ false
  sound-apart s t = go (is_present c) refl
    where
      go : (p : Bool) → is_present c ≡ p → contradicts r c ≡ false
      go true e =
          contradicts-present r c e ∙ false_of (has r.cut (atom c)) (λ q. s.apart (atom c) (sym (holds-present r c e) ∙ t) q)
      go false e =
          contradicts-absent r c e ∙ false_of (has r.held (atom c)) (λ q. s.apart (atom c) q (sym (holds-absent r c e) ∙ t))

-- ---- what the code's answer says
module _ (n : ℕ) (held cut : List ℕ) (c : ℕ) (b : Bool) (held' cut' : List ℕ) where
  abbrev before : Region
  before = region held cut

  -- false: there is no decision, and the slices are as they were
  pub answer-none : decision_with b held' cut' ≡ decision_on n held cut c → b ≡ false
      → (decide n (region held cut) c ≡ none) × (held' ≡ held) × (cut' ≡ cut)
  answer-none e f = go (decide n before c) refl
    where
      go : (d : Option Region) → decide n before c ≡ d → (decide n before c ≡ none) × (held' ≡ held) × (cut' ≡ cut)
      go none q =
          let k : decision_with b held' cut' ≡ decision before none = e ∙ ap (decision before) q in
          (q, ap (λ (x : Decision). x.after.held) k, ap (λ (x : Decision). x.after.cut) k)
      go (some s) q = absurd (false≢true (sym f ∙ ap (λ (x : Decision). x.answer) (e ∙ ap (decision before) q)))

  -- true: the slices are the region after the decision
  pub answer-some : decision_with b held' cut' ≡ decision_on n held cut c → b ≡ true →
      decide n (region held cut) c ≡ some (region held' cut')
  answer-some e f = go (decide n before c) refl
    where
      go : (d : Option Region) → decide n before c ≡ d → decide n before c ≡ some (region held' cut')
      go none q = absurd (true≢false (sym f ∙ ap (λ (x : Decision). x.answer) (e ∙ ap (decision before) q)))
      go (some s) q = q ∙ ap some (sym (ap (λ (x : Decision). x.after) (e ∙ ap (decision before) q)))

-- ---- what it did
already-anew : Already ≡ Anew → ⊥
already-anew e = let z : ◌≡◌ {A = ℕ} 0 1 = cc in omega arith

module _ (n : ℕ) (r : Region) (c : ℕ) where
  -- a literal that holds, marked again
  pub held-again : holds r c ≡ true → mark_literal r c ≡ r
  held-again t = go (is_present c) refl
    where
      go : (p : Bool) → is_present c ≡ p → mark_literal r c ≡ r
      go true e =
          mark-present r c e
          ∙ ap (λ (ws : List ℕ). region ws r.cut) (mark-again r.held (atom c) (sym (holds-present r c e) ∙ t))
      go false e =
          mark-absent r c e
          ∙ ap (λ (ws : List ℕ). region r.held ws) (mark-again r.cut (atom c) (sym (holds-absent r c e) ∙ t))

  marking-some : (s : Region) → decide n r c ≡ some s
      → marking n r c ≡ marked_as (holds r c)
  unfolding marking
  marking-some s e = rw (e, marking)

  marking-none : decide n r c ≡ none → marking n r c ≡ False
  unfolding marking
  marking-none e = rw (e, marking)

  -- marked already: the region is as it was; marked anew: the literal did not hold
  pub marked-already : (s : Region) → decide n r c ≡ some s → marking n r c ≡ Already → s ≡ r
  marked-already s e m = go (holds r c) refl
    where
      go : (b : Bool) → holds r c ≡ b → s ≡ r
      go true t = (decide-some n r c s e).2 ∙ held-again t
      go false t = absurd (already-anew (sym m ∙ marking-some s e ∙ rw t refl))

  pub marked-anew : (s : Region) → decide n r c ≡ some s → marking n r c ≡ Anew → holds r c ≡ false
  marked-anew s e m = false_of (holds r c) (λ t. already-anew (sym (sym m ∙ marking-some s e ∙ rw t refl)))

-- ---- the code's ways through `decide_literal`
module _ (n : ℕ) (held cut : List ℕ) (c : ℕ) where
  abbrev given : Region
  given = region held cut

  pub said-out : n ≤ c / 2 → (False ≡ marking n (region held cut) c) × (decision_with false held cut ≡ decision_on n held cut c)
  unfolding atom
  said-out h = let o = decide-out n given c h in (sym (marking-none n given c o), sym (ap (decision given) o))

  said-against : contradicts (region held cut) c ≡ true
      → (False ≡ marking n (region held cut) c) × (decision_with false held cut ≡ decision_on n held cut c)
  said-against e = let o = decide-against n given c e in (sym (marking-none n given c o), sym (ap (decision given) o))

  said-marked : (m : Marking) (b : Bool) → m ≡ marked_as b → c / 2 < n → contradicts (region held cut) c ≡ false
      → b ≡ holds (region held cut) c → (s : Region) → s ≡ mark_literal (region held cut) c
      → (m ≡ marking n (region held cut) c) × (◌≡◌ {A = Decision} (record { answer = answer_in m; after = s }) (decision_on n held cut c))
  unfolding atom
  said-marked m b k l e f s q =
      let o = decide-marks n given c l e in (
        k ∙ ap marked_as f ∙ sym (marking-some n given c (mark_literal given c) o),
        ap₂ {C = Decision} (λ (x : Bool) (r : Region). record { answer = x; after = r }) (ap answer_in k ∙ is-answer b) q
            ∙ sym (ap (decision given) o),
      )
    where
      is-answer : (b : Bool) → answer_in (marked_as b) ≡ true
      is-answer true = refl
      is-answer false = refl

  -- the words at its atom's place: it has its bit there, or none
  module _ (p : Place) (e : p ≡ place_of (c / 2)) where
    abbrev bits : List ℕ → ℕ
    bits ws = bit_and (get_or ws p.word 0) p.bit

    some-there : (ws : List ℕ) → (bits ws ≡ 0 → ⊥) → has ws (c / 2) ≡ true
    some-there ws f = sym (contains-place ws (c / 2) p e) ∙ ap not (ne_eqb (bits ws) 0 f)

    none-there : (ws : List ℕ) → bits ws ≡ 0 → has ws (c / 2) ≡ false
    none-there ws f = sym (contains-place ws (c / 2) p e) ∙ ap not (eq-eqb (bits ws) 0 f)

    pub place_inside : (ws : List ℕ) → Set n ws → c / 2 < n → p.word < length ws
    unfolding place_of
    place_inside ws s l = rw (e, place_of) (word-inside n (c / 2) (length ws) s.long l)

    pub present-against : c % 2 ≡ 1 → (bit_and (get_or cut p.word 0) p.bit ≡ 0 → ⊥)
        → (False ≡ marking n (region held cut) c) × (decision_with false held cut ≡ decision_on n held cut c)
    present-against o f = said-against (sym (contradicts-odd given c o) ∙ some-there cut f)

    pub absent-against : (c % 2 ≡ 1 → ⊥) → (bit_and (get_or held p.word 0) p.bit ≡ 0 → ⊥)
        → (False ≡ marking n (region held cut) c) × (decision_with false held cut ≡ decision_on n held cut c)
    absent-against o f = said-against (sym (contradicts-even given c o) ∙ some-there held f)

    pub present-marked : (m : Marking) (ws : List ℕ) → c % 2 ≡ 1 → c / 2 < n → bit_and (get_or cut p.word 0) p.bit ≡ 0
        → m ≡ marked_as (not (eqb (bit_and (get_or held p.word 0) p.bit) 0))
        → ws ≡ set held p.word (bit_or (get_or held p.word 0) p.bit)
        → (m ≡ marking n (region held cut) c) × (decision_with (answer_in m) ws cut ≡ decision_on n held cut c)
    unfolding is_present atom
    present-marked m ws o l z k w =
        said-marked m (not (eqb (bits held) 0)) k l (sym (contradicts-odd given c o) ∙ none-there cut z)
        (contains-place held (c / 2) p e ∙ holds-odd given c o) (region ws cut)
        (ap (λ (x : List ℕ). region x cut) (w ∙ insert-place held (c / 2) p e) ∙ sym (mark-present given c (eq-eqb (c % 2) 1 o)))

    pub absent-marked : (m : Marking) (ws : List ℕ) → (c % 2 ≡ 1 → ⊥) → c / 2 < n → bit_and (get_or held p.word 0) p.bit ≡ 0
        → m ≡ marked_as (not (eqb (bit_and (get_or cut p.word 0) p.bit) 0))
        → ws ≡ set cut p.word (bit_or (get_or cut p.word 0) p.bit)
        → (m ≡ marking n (region held cut) c) × (decision_with (answer_in m) held ws ≡ decision_on n held cut c)
    unfolding is_present atom
    absent-marked m ws o l z k w =
        said-marked m (not (eqb (bits cut) 0)) k l (sym (contradicts-even given c o) ∙ none-there held z)
        (contains-place cut (c / 2) p e ∙ holds-even given c o) (region held ws)
        (ap (region held) (w ∙ insert-place cut (c / 2) p e) ∙ sym (mark-absent given c (ne_eqb (c % 2) 1 o)))

-- ---- the code's ways through `decide`
module _ (n : ℕ) (held cut : List ℕ) (a : ℕ) (p : Bool) where
  abbrev start : Region
  start = region held cut

  against : contradicts start (code a p) ≡ true → decision_with false held cut ≡ decision_on n held cut (code a p)
  against e = sym (ap (decision start) (decide-against n start (code a p) e))

  marks : (s : Region) → a < n → contradicts start (code a p) ≡ false → mark_literal start (code a p) ≡ s
      → ◌≡◌ {A = Decision} (record { answer = true; after = s }) (decision_on n held cut (code a p))
  marks s h e q = sym (ap (decision start) (decide-marks n start (code a p) (rw (atom-code a p) h) e ∙ ap some q))

  opposed-cut : p ≡ true → contradicts start (code a p) ≡ has cut a
  opposed-cut e = contradicts-present start (code a p) (present-code a p ∙ e) ∙ ap (has cut) (atom-code a p)

  opposed-held : p ≡ false → contradicts start (code a p) ≡ has held a
  opposed-held e = contradicts-absent start (code a p) (present-code a p ∙ e) ∙ ap (has held) (atom-code a p)

  pub way_out : n ≤ a → decision_with false held cut ≡ decision_on n held cut (code a p)
  way_out h = sym (ap (decision start) (decide-out n start (code a p) (rw (atom-code a p) h)))

  pub way-cut : p ≡ true → has cut a ≡ true → decision_with false held cut ≡ decision_on n held cut (code a p)
  way-cut e t = against (opposed-cut e ∙ t)

  pub way-held : p ≡ false → has held a ≡ true → decision_with false held cut ≡ decision_on n held cut (code a p)
  way-held e t = against (opposed-held e ∙ t)

  pub way-hold : p ≡ true → a < n → has cut a ≡ false → decision_with true (mark held a) cut ≡ decision_on n held cut (code a p)
  way-hold e h t =
      marks (region (mark held a) cut) h (opposed-cut e ∙ t)
      (mark-present start (code a p) (present-code a p ∙ e) ∙ ap (λ (x : ℕ). region (mark held x) cut) (atom-code a p))

  pub way-drop : p ≡ false → a < n → has held a ≡ false → decision_with true held (mark cut a) ≡ decision_on n held cut (code a p)
  way-drop e h t =
      marks (region held (mark cut a)) h (opposed-held e ∙ t)
      (mark-absent start (code a p) (present-code a p ∙ e) ∙ ap (λ (x : ℕ). region held (mark cut x)) (atom-code a p))
