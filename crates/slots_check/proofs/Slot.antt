-- The tests of the words are together what is asked of a slot. Assumes nothing.
use mathlib.Core.Path.{◌≡◌, refl, sym, ap, ap₂, ◌∙◌, subst}
use mathlib.Core.Bool.{Bool, true, false, ◌&&◌}
use mathlib.Core.List.{List, [], ◌∷◌, ◌++◌, map, append_assoc}
use Prim.Native.Nat.{ℕ, suc, ◌+◌, ◌-◌, ◌*◌, ◌≤◌, ◌<◌, zero-le}
use native.Mathlib.Nat.{le_refl}
use native.Mathlib.Decide.{ℕ_discrete}
use native.Mathlib.Omega.{arith}
use lib.Dec.{eqb, leb, ltb}
use lib.ListN.{length, get_or, take, drop, replicate, length-append, length-replicate, length-drop, take-append-drop}
use lib.Seq.{length-take-le, take_all, take-suc, take-add, take-take, take_at, drop_at, drop-cons, get_or-drop}
use borrow.Author.Tests.{eq-eqb, ne_eqb, eqb-true, lt-ltb, le-ltb, ltb-true, ltb-false, le-leb, leb-true}
use Rattle.lists.specs.Lists.{all, same, ascending, below, pad, zeroed}
use Rattle.lists.proofs.Tests.{same-yes, same_true}
use Rattle.lists.proofs.Bools.{and_both, and_yes, T_of, bool-ext, T_true}
use Rattle.words.specs.Literal.{atom}
use Rattle.words.specs.Codes.{climbs}
use Rattle.words.proofs.Codes.{climbs-conditions, climbs-outputs}
use Rattle.model.specs.Records.{Row, Entry, is_row, literals, slot_words, max_conditions, max_outputs, conditions_at, outputs_at, total_groups_at}
use Rattle.model.specs.Records.{condition_groups_at, hits_at, unshared_at, born_at, delivered_at, body_at, group_length, body_words}
use Rattle.model.specs.Records.{source_at, source_word, source_in}
use Rattle.model.specs.Rows.{groups, group_count, packed}
use Rattle.model.specs.Slots.{ungroup, if_packed, flag, body, slot_of, row_in, entry_in, packs}
use Rattle.model.proofs.Packing.{Asc, Under, words-length, unpack-pack}
use Rattle.model.proofs.Slots.{Valid, valid-of, ascending-asc, body-scalar, body-packed, body-fits, flag-of}
use Rattle.model.proofs.Slots.{source-there, source-small, source-word}
use Rattle.model.proofs.Rows.{Parts, row-parts, parts-row, asc-ascending}
use Rattle.slots.proofs.Groups.{below-under}
use Rattle.slots_check.specs.Check.{key, groups_ok, code_count, all_zero, entry_over, slot_ok, head_ok, body_in, scalar_ok, packed_ok}
use Rattle.slots_check.specs.Check.{words_pass}
use Rattle.slots_check.proofs.Groups.{Back, groups-back, groups-there, no-groups}

-- ---- tests as facts
zeros-there : (n : ℕ) → all_zero (replicate n 0) ≡ true
unfolding zeroed
zeros-there n = same-yes (replicate n 0) (zeroed (replicate n 0)) (ap (λ (k : ℕ). replicate k 0) (sym (length-replicate {A = ℕ} n 0)))

-- ---- order as facts
under-below : (n : ℕ) (xs : List ℕ) → Under n xs → below n xs ≡ true
unfolding below all
under-below n [] u = refl
under-below n (x ∷ xs) u = and_yes (ltb x n) (below n xs) (lt-ltb x n u.0) (under-below n xs u.1)

map-key : (xs : List ℕ) → map (key false) xs ≡ xs
map-key [] = refl
map-key (x ∷ xs) = ap (λ (l : List ℕ). x ∷ l) (map-key xs)

-- ---- a row by its parts
-- ---- the words of a slot by the form of its row
tail : Row → List ℕ
tail r = body r ++ replicate (body_words - length (body r)) 0

-- the source, after the body
abbrev last_of : ℕ → List ℕ
last_of w = source_word (source_in w) ∷ []

shape : (e : Entry) → slot_of e ≡ length e.row.conditions ∷ length e.row.outputs ∷ if_packed e.row (group_count e.row)
    ∷ if_packed e.row (length (groups e.row.conditions)) ∷ e.hits ∷ e.unshared ∷ e.born ∷ flag e.delivered
    ∷ (tail e.row ++ (source_word e.source ∷ []))
unfolding slot_of pad tail
shape e =
    let r : Row = e.row in
    let n : source_at - suc (suc (suc (suc (suc (suc (suc (suc (length (body r))))))))) ≡ body_words - length (body r) = omega arith in
    ap (λ (k : ℕ). length r.conditions ∷ length r.outputs ∷ if_packed r (group_count r)
    ∷ if_packed r (length (groups r.conditions)) ∷ e.hits ∷ e.unshared ∷ e.born ∷ flag e.delivered
    ∷ ((body r ++ replicate k 0) ++ (source_word e.source ∷ []))) n

tail-long : (r : Row) → Valid r → length (tail r) ≡ body_words
unfolding tail
tail-long r v =
    let h = body-fits r v.few v.many in
    let a = length-append (body r) (replicate (body_words - length (body r)) 0) in
    let b = length-replicate {A = ℕ} (body_words - length (body r)) 0 in
    omega arith

-- the eight words before the body
eight : (ws : List ℕ) → body_at ≤ length ws
    → ws ≡ get_or ws conditions_at 0 ∷ get_or ws outputs_at 0 ∷ get_or ws total_groups_at 0 ∷ get_or ws condition_groups_at 0 ∷ get_or ws hits_at 0
    ∷ get_or ws unshared_at 0 ∷ get_or ws born_at 0 ∷ get_or ws delivered_at 0 ∷ drop body_at ws
eight ws h =
    at 0 (omega arith) (at 1 (omega arith) (at 2 (omega arith) (at 3 (omega arith)
    (at 4 (omega arith) (at 5 (omega arith) (at 6 (omega arith) (at 7 (omega arith) refl)))))))
  where
    at : (i : ℕ) {l : List ℕ} → i < length ws → drop (suc i) ws ≡ l → drop i ws ≡ get_or ws i 0 ∷ l
    at i k e = drop-cons ws i 0 k ∙ ap (λ (r : List ℕ). get_or ws i 0 ∷ r) e

-- the body and the word after it
nine : (ws : List ℕ) → length ws ≡ slot_words → drop body_at ws ≡ body_in ws ++ (get_or ws source_at 0 ∷ [])
nine ws l =
    let d : length (drop body_at ws) ≡ suc body_words = omega (arith, length-drop body_at ws) in
    sym (take_all (suc body_words) (drop body_at ws) (omega arith))
    ∙ take-suc (drop body_at ws) body_words 0 (omega arith)
    ∙ ap (λ (w : ℕ). body_in ws ++ (w ∷ [])) (get_or-drop body_at ws body_words 0)

if-packed : (r : Row) (b : Bool) (n : ℕ) → packed r ≡ b → if_packed r n ≡ elim b as (λ k. ℕ) [ true ↦ n | false ↦ 0 ]
unfolding if_packed
if-packed r b n e = ap (λ (k : Bool). elim k as (λ k. ℕ) [ true ↦ n | false ↦ 0 ]) e

-- ---- words that are a slot pass the tests
flag_small : (b : Bool) → flag b ≤ 1
unfolding flag
flag_small true = le_refl 1
flag_small false = zero-le

-- how many groups and codes make the form
abbrev groups_of : Row → ℕ
groups_of r = length (groups r.conditions) + length (groups r.outputs)

abbrev codes_wide : Row → ℕ
codes_wide r = length r.conditions + length r.outputs

form-scalar : (r : Row) → packed r ≡ false → 2 * codes_wide r ≤ 3 * groups_of r
unfolding packed group_count literals
form-scalar r e = ltb-false (3 * groups_of r) (2 * codes_wide r) e

form-packed : (r : Row) → packed r ≡ true → 3 * groups_of r < 2 * codes_wide r
unfolding packed group_count literals
form-packed r e = ltb-true (3 * groups_of r) (2 * codes_wide r) e

some-groups : (r : Row) → 3 * groups_of r < 2 * codes_wide r → groups_of r ≡ 0 → ⊥
some-groups r h e =
    let c : length (groups r.conditions) ≡ 0 = omega arith in
    let o : length (groups r.outputs) ≡ 0 = omega arith in
    omega (arith, no-groups r.conditions c, no-groups r.outputs o)

module _ (n : ℕ) (ws : List ℕ) (row : is_row n (row_in ws) ≡ true) (words_are : ws ≡ slot_of (entry_in ws)) where
  abbrev r : Row
  r = row_in ws

  parts : Parts n r
  parts = row-parts n r row

  valid : Valid r
  valid = valid-of n r (T_of row)

  at : ws ≡ length r.conditions ∷ length r.outputs ∷ if_packed r (group_count r)
      ∷ if_packed r (length (groups r.conditions)) ∷ get_or ws hits_at 0 ∷ get_or ws unshared_at 0 ∷ get_or ws born_at 0
      ∷ flag (eqb (get_or ws delivered_at 0) 1) ∷ (tail r ++ last_of (get_or ws source_at 0))
  unfolding entry_in
  at = words_are ∙ shape (entry_in ws)

  at0 : get_or ws conditions_at 0 ≡ length r.conditions
  at0 = ap (λ (l : List ℕ). get_or l conditions_at 0) at

  at1 : get_or ws outputs_at 0 ≡ length r.outputs
  at1 = ap (λ (l : List ℕ). get_or l outputs_at 0) at

  at2 : get_or ws total_groups_at 0 ≡ if_packed r (group_count r)
  at2 = ap (λ (l : List ℕ). get_or l total_groups_at 0) at

  at3 : get_or ws condition_groups_at 0 ≡ if_packed r (length (groups r.conditions))
  at3 = ap (λ (l : List ℕ). get_or l condition_groups_at 0) at

  at7 : get_or ws delivered_at 0 ≡ flag (eqb (get_or ws delivered_at 0) 1)
  at7 = ap (λ (l : List ℕ). get_or l delivered_at 0) at

  at8 : drop body_at ws ≡ tail r ++ last_of (get_or ws source_at 0)
  at8 = ap (drop body_at) at

  body-at : body_in ws ≡ tail r
  body-at = ap (take body_words) at8 ∙ take_at (tail r) (last_of (get_or ws source_at 0)) body_words (tail-long r valid)

  source-at : get_or ws source_at 0 ≤ 1
  unfolding entry_in
  source-at =
      subst (λ (w : ℕ). w ≤ 1) (sym (ap (λ (l : List ℕ). get_or l source_at 0) words_are ∙ source-there (entry_in ws) valid))
      (source-small (source_in (get_or ws source_at 0)))

  head-there : (born : ℕ) → (leb 1 (get_or ws born_at 0) && leb (get_or ws born_at 0) born) ≡ true → head_ok born ws ≡ true
  unfolding head_ok
  head-there born b6 =
      let a = at0 in
      let b = at1 in
      let c = at7 in
      let f = flag_small (eqb (get_or ws delivered_at 0) 1) in
      let p = parts.few in
      let q = parts.many in
      and_yes _ _ (and_yes _ _ (le-leb (get_or ws conditions_at 0) max_conditions (omega arith))
      (le-leb (get_or ws outputs_at 0) max_outputs (omega arith)))
      (and_yes _ _ b6 (and_yes _ _ (le-leb (get_or ws delivered_at 0) 1 (omega arith)) (le-leb (get_or ws source_at 0) 1 source-at)))

  scalar-there : packed r ≡ false → (eqb (get_or ws total_groups_at 0) 0 ≡ true) × (scalar_ok n ws ≡ true)
  unfolding scalar_ok tail
  scalar-there k =
      let c : List ℕ = r.conditions in
      let o : List ℕ = r.outputs in
      let z : List ℕ = replicate (body_words - length (body r)) 0 in
      let nc : ℕ = get_or ws conditions_at 0 in
      let no : ℕ = get_or ws outputs_at 0 in
      let zl : List ℕ = z ++ last_of (get_or ws source_at 0) in
      let d8 : drop body_at ws ≡ (c ++ o) ++ zl = at8 ∙ ap (λ (l : List ℕ). (l ++ z) ++ last_of (get_or ws source_at 0)) (body-scalar r k)
      ∙ append_assoc (c ++ o) z (last_of (get_or ws source_at 0)) in
      let d8' : drop body_at ws ≡ c ++ (o ++ zl) = d8 ∙ append_assoc c o zl in
      let ec : take nc (drop body_at ws) ≡ c = ap (take nc) d8' ∙ take_at c (o ++ zl) nc (sym at0) in
      let ed : drop nc (drop body_at ws) ≡ o ++ zl = ap (drop nc) d8' ∙ drop_at c (o ++ zl) nc (sym at0) in
      let eo : take no (drop nc (drop body_at ws)) ≡ o = ap (take no) ed ∙ take_at o zl no (sym at1) in
      let ln : length (c ++ o) ≡ nc + no = length-append c o ∙ ap₂ (λ (x y : ℕ). x + y) (sym at0) (sym at1) in
      let ez : drop (nc + no) (body_in ws) ≡ z =
      ap (drop (nc + no)) (body-at ∙ ap (λ (l : List ℕ). l ++ z) (body-scalar r k)) ∙ drop_at (c ++ o) z (nc + no) ln in
      let wide = form-scalar r k in
      let a = at0 in
      let b = at1 in (
        eq-eqb (get_or ws total_groups_at 0) 0 (at2 ∙ if-packed r false (group_count r) k),
        and_yes _ _ (eq-eqb (get_or ws condition_groups_at 0) 0 (at3 ∙ if-packed r false (length (groups c)) k))
            (and_yes _ _
            (and_yes _ _ (ap (climbs n 1) ec ∙ climbs-conditions n c ∙ and_yes _ _ parts.conditions_under parts.conditions_rise)
            (ap (climbs n 0) eo ∙ climbs-outputs n o ∙ and_yes _ _ parts.outputs_under parts.outputs_rise))
            (and_yes _ _
            (ap₂ (λ (x y : List ℕ). leb (2 * (nc + no)) (3 * (length (groups x) + length (groups y)))) ec eo
            ∙ le-leb (2 * (nc + no)) (3 * groups_of r) (omega arith))
            (ap all_zero ez ∙ zeros-there (body_words - length (body r))))),
      )

  -- the groups of one side
  side-there : (apart : Bool) (cs : List ℕ) → Asc 0 (map (key apart) cs) → Asc 0 cs → below (2 * n) cs ≡ true →
      (groups_ok apart n 0 (packs cs) ≡ true) × (code_count (packs cs) ≡ length cs)
  side-there apart cs a b u =
      let ok = groups-there apart n 0 cs a (below-under (2 * n) cs (T_of u)) in
      (ok, sym (groups-back apart n 0 (packs cs) ok).long ∙ ap length (unpack-pack 0 cs b))

  packed-there : packed r ≡ true → (eqb (get_or ws total_groups_at 0) 0 ≡ false) × (packed_ok n ws ≡ true)
  unfolding packed_ok tail group_count
  packed-there k =
      let c : List ℕ = r.conditions in
      let o : List ℕ = r.outputs in
      let z : List ℕ = replicate (body_words - length (body r)) 0 in
      let nc : ℕ = get_or ws conditions_at 0 in
      let no : ℕ = get_or ws outputs_at 0 in
      let w : ℕ = get_or ws total_groups_at 0 in
      let g : ℕ = get_or ws condition_groups_at 0 in
      let a = at0 in
      let b = at1 in
      let ew : w ≡ length (groups c) + length (groups o) = at2 ∙ if-packed r true (group_count r) k in
      let eg : g ≡ length (groups c) = at3 ∙ if-packed r true (length (groups c)) k in
      let dense = form-packed r k in
      let lc : length (packs c) ≡ group_length * g = words-length (groups c) ∙ ap (λ (x : ℕ). group_length * x) (sym eg) in
      let ls : length (groups o) ≡ w - g = omega arith in
      let lo : length (packs o) ≡ group_length * (w - g) = words-length (groups o) ∙ ap (λ (x : ℕ). group_length * x) ls in
      let zl : List ℕ = z ++ last_of (get_or ws source_at 0) in
      let d8 : drop body_at ws ≡ (packs c ++ packs o) ++ zl = at8
      ∙ ap (λ (l : List ℕ). (l ++ z) ++ last_of (get_or ws source_at 0)) (body-packed r k)
      ∙ append_assoc (packs c ++ packs o) z (last_of (get_or ws source_at 0)) in
      let d8' : drop body_at ws ≡ packs c ++ (packs o ++ zl) = d8 ∙ append_assoc (packs c) (packs o) zl in
      let ec : take (group_length * g) (drop body_at ws) ≡ packs c =
      ap (take (group_length * g)) d8' ∙ take_at (packs c) (packs o ++ zl) (group_length * g) lc in
      let ed : drop (group_length * g) (drop body_at ws) ≡ packs o ++ zl =
      ap (drop (group_length * g)) d8' ∙ drop_at (packs c) (packs o ++ zl) (group_length * g) lc in
      let eo : take (group_length * (w - g)) (drop (group_length * g) (drop body_at ws)) ≡ packs o =
      ap (take (group_length * (w - g))) ed ∙ take_at (packs o) zl (group_length * (w - g)) lo in
      let lw : length (packs c ++ packs o) ≡ group_length * w = length-append (packs c) (packs o) ∙ omega arith in
      let ez : drop (group_length * w) (body_in ws) ≡ z =
      ap (drop (group_length * w)) (body-at ∙ ap (λ (l : List ℕ). l ++ z) (body-packed r k))
      ∙ drop_at (packs c ++ packs o) z (group_length * w) lw in
      let sc = side-there true c (ascending-asc (map atom c) (T_of parts.conditions_rise)) valid.conditions parts.conditions_under in
      let so = side-there false o (subst (Asc 0) (sym (map-key o)) valid.outputs) valid.outputs parts.outputs_under in (
        ne_eqb (get_or ws total_groups_at 0) 0 (λ q. some-groups r dense (sym ew ∙ q)),
        and_yes _ _ (and_yes _ _ (le-leb g w (omega arith)) (lt-ltb (3 * w) (2 * (nc + no)) (omega arith)))
            (and_yes _ _
            (and_yes _ _ (ap (groups_ok true n 0) ec ∙ sc.0) (ap (groups_ok false n 0) eo ∙ so.0))
            (and_yes _ _
            (and_yes _ _ (eq-eqb _ nc (ap code_count ec ∙ sc.1 ∙ sym at0)) (eq-eqb _ no (ap code_count eo ∙ so.1 ∙ sym at1)))
            (ap all_zero ez ∙ zeros-there (body_words - length (body r))))),
      )

  form-there : (elim (eqb (get_or ws total_groups_at 0) 0) [ true ↦ scalar_ok n ws | false ↦ packed_ok n ws ]) ≡ true
  form-there = by (packed r) refl
    where
      by : (k : Bool) → packed r ≡ k → (elim (eqb (get_or ws total_groups_at 0) 0) [ true ↦ scalar_ok n ws | false ↦ packed_ok n ws ]) ≡ true
      by true q =
          let t = packed-there q in
          ap (λ (b : Bool). elim b as (λ k. Bool) [ true ↦ scalar_ok n ws | false ↦ packed_ok n ws ]) t.0 ∙ t.1
      by false q =
          let t = scalar-there q in
          ap (λ (b : Bool). elim b as (λ k. Bool) [ true ↦ scalar_ok n ws | false ↦ packed_ok n ws ]) t.0 ∙ t.1

  -- of a packed slot, the groups of the outputs
  pub groups-stored : (get_or ws total_groups_at 0 ≡ 0 → ⊥)
      → groups_ok false n 0 (take (group_length * (get_or ws total_groups_at 0 - get_or ws condition_groups_at 0))
      (drop (group_length * get_or ws condition_groups_at 0) (drop body_at ws))) ≡ true
  unfolding packed_ok
  groups-stored z =
      let pc : List ℕ = take (group_length * get_or ws condition_groups_at 0) (drop body_at ws) in
      let po : List ℕ =
      take (group_length * (get_or ws total_groups_at 0 - get_or ws condition_groups_at 0))
      (drop (group_length * get_or ws condition_groups_at 0) (drop body_at ws)) in
      let f : Bool =
      leb (get_or ws condition_groups_at 0) (get_or ws total_groups_at 0)
      && ltb (3 * get_or ws total_groups_at 0) (2 * (get_or ws conditions_at 0 + get_or ws outputs_at 0)) in
      let ok : packed_ok n ws ≡ true =
      sym (ap (λ (q : Bool). elim q as (λ k. Bool) [ true ↦ scalar_ok n ws | false ↦ packed_ok n ws ]) (ne_eqb (get_or ws total_groups_at 0) 0 z))
      ∙ form-there in
      (and_both (groups_ok true n 0 pc) (groups_ok false n 0 po)
      (and_both (groups_ok true n 0 pc && groups_ok false n 0 po) _ (and_both f _ ok).1).0).1

-- what is asked of a slot, by its parts
pub slot-parts : (n born : ℕ) (ws : List ℕ) → slot_ok n born ws ≡ true →
    (is_row n (row_in ws) ≡ true) × (ws ≡ slot_of (entry_in ws)) × ((leb 1 (get_or ws born_at 0) && leb (get_or ws born_at 0) born) ≡ true)
unfolding slot_ok entry_over entry_in
slot-parts n born ws ok =
    let s = and_both (entry_over n born (entry_in ws)) (same ws (slot_of (entry_in ws))) ok in
    let t = and_both (is_row n (row_in ws)) (leb 1 (get_or ws born_at 0) && leb (get_or ws born_at 0) born) s.0 in
    (t.0, same_true ws (slot_of (entry_in ws)) s.1, t.1)

pub slot-sourced : (n born : ℕ) (ws : List ℕ) → slot_ok n born ws ≡ true → get_or ws source_at 0 ≤ 1
slot-sourced n born ws ok = let p = slot-parts n born ws ok in source-at n ws p.0 p.1

passes : (n born : ℕ) (ws : List ℕ) → slot_ok n born ws ≡ true → words_pass n born ws ≡ true
unfolding words_pass
passes n born ws ok =
    let p = slot-parts n born ws ok in
    and_yes (head_ok born ws) _ (head-there n ws p.0 p.1 born p.2) (form-there n ws p.0 p.1)

-- ---- words that pass are a slot
head-eq : (a b x y d a' b' x' y' d' : ℕ) (t t' : List ℕ) (h u k : ℕ) → a ≡ a' → b ≡ b' → x ≡ x' → y ≡ y' → d ≡ d' → t ≡ t'
    → ◌≡◌ {A = List ℕ} (a ∷ b ∷ x ∷ y ∷ h ∷ u ∷ k ∷ d ∷ t) (a' ∷ b' ∷ x' ∷ y' ∷ h ∷ u ∷ k ∷ d' ∷ t')
head-eq a b x y d a' b' x' y' d' t t' h u k p q r s v w = cc

-- a body of m words, and zeros after it
fill-back : (ds b : List ℕ) (m : ℕ) → length ds ≡ body_words → m ≤ body_words → b ≡ take m ds → all_zero (drop m ds) ≡ true
    → b ++ replicate (body_words - length b) 0 ≡ ds
unfolding zeroed
fill-back ds b m l h e z =
    let lb : length b ≡ m = ap length e ∙ length-take-le m ds (omega arith) in
    let lz : body_words - length b ≡ length (drop m ds) = omega (arith, length-drop m ds) in
    let zs : replicate (body_words - length b) 0 ≡ drop m ds =
    ap (λ (k : ℕ). replicate k 0) lz ∙ sym (same_true (drop m ds) (zeroed (drop m ds)) z) in
    ◌∙◌ {b = take m ds ++ drop m ds} (ap₂ (λ (x y : List ℕ). x ++ y) e zs) (take-append-drop m ds)

tail-is : (r : Row) (b : List ℕ) → body r ≡ b → tail r ≡ b ++ replicate (body_words - length b) 0
unfolding tail
tail-is r b e = ap (λ (l : List ℕ). l ++ replicate (body_words - length l) 0) e

scalar-form : (r : Row) → 2 * codes_wide r ≤ 3 * groups_of r → packed r ≡ false
unfolding packed group_count literals
scalar-form r h = le-ltb (3 * groups_of r) (2 * codes_wide r) h

packed-form : (r : Row) → 3 * groups_of r < 2 * codes_wide r → packed r ≡ true
unfolding packed group_count literals
packed-form r h = lt-ltb (3 * groups_of r) (2 * codes_wide r) h

abbrev scalar_row : List ℕ → Row
scalar_row ws =
    record {
      conditions = take (get_or ws conditions_at 0) (drop body_at ws);
      outputs = take (get_or ws outputs_at 0) (drop (get_or ws conditions_at 0) (drop body_at ws));
    }

abbrev packed_row : List ℕ → Row
packed_row ws = record {
  conditions = ungroup (take (group_length * get_or ws condition_groups_at 0) (drop body_at ws));
  outputs =
      ungroup (take (group_length * (get_or ws total_groups_at 0 - get_or ws condition_groups_at 0))
      (drop (group_length * get_or ws condition_groups_at 0) (drop body_at ws)));
}

pub row-scalar : (ws : List ℕ) → get_or ws total_groups_at 0 ≡ 0 → row_in ws ≡ scalar_row ws
unfolding row_in
row-scalar ws z =
    ap (λ (b : Bool). elim b as (λ k. Row) [ true ↦ scalar_row ws | false ↦ packed_row ws ]) (eq-eqb (get_or ws total_groups_at 0) 0 z)

pub row-packed : (ws : List ℕ) → (get_or ws total_groups_at 0 ≡ 0 → ⊥) → row_in ws ≡ packed_row ws
unfolding row_in
row-packed ws z =
    ap (λ (b : Bool). elim b as (λ k. Row) [ true ↦ scalar_row ws | false ↦ packed_row ws ]) (ne_eqb (get_or ws total_groups_at 0) 0 z)

module _ (n born : ℕ) (ws : List ℕ) (long : length ws ≡ slot_words) where
  all-long : length (drop body_at ws) ≡ suc body_words
  all-long = omega (arith, length-drop body_at ws)

  body-long : length (body_in ws) ≡ body_words
  body-long = length-take-le body_words (drop body_at ws) (omega (arith, all-long))

  -- a row over n whose slot these words are
  module _ (born-ok : (leb 1 (get_or ws born_at 0) && leb (get_or ws born_at 0) born) ≡ true) (flagged : get_or ws delivered_at 0 ≤ 1)
      (sourced : get_or ws source_at 0 ≤ 1) where
    slot-back : Parts n (row_in ws) → length (row_in ws).conditions ≡ get_or ws conditions_at 0
        → length (row_in ws).outputs ≡ get_or ws outputs_at 0 →
        if_packed (row_in ws) (group_count (row_in ws)) ≡ get_or ws total_groups_at 0
        → if_packed (row_in ws) (length (groups (row_in ws).conditions)) ≡ get_or ws condition_groups_at 0 →
        tail (row_in ws) ≡ body_in ws → slot_ok n born ws ≡ true
    unfolding slot_ok entry_over entry_in
    slot-back p a b c d t =
        and_yes _ _ (and_yes _ _ (parts-row n (row_in ws) p) born-ok)
        (same-yes ws (slot_of (entry_in ws))
        (sym (shape (entry_in ws)
        ∙ head-eq _ _ _ _ _ _ _ _ _ _ _ _ (get_or ws hits_at 0) (get_or ws unshared_at 0) (get_or ws born_at 0) a b c d
        (flag-of (get_or ws delivered_at 0) flagged)
        (ap₂ (λ (l : List ℕ) (w : ℕ). l ++ (w ∷ [])) t (source-word (get_or ws source_at 0) sourced) ∙ sym (nine ws long))
        ∙ sym (eight ws (omega arith)))))

    scalar-back : get_or ws conditions_at 0 ≤ max_conditions → get_or ws outputs_at 0 ≤ max_outputs → get_or ws total_groups_at 0 ≡ 0
        → scalar_ok n ws ≡ true → slot_ok n born ws ≡ true
    unfolding scalar_ok
    scalar-back few many z ok =
        let nc : ℕ = get_or ws conditions_at 0 in
        let no : ℕ = get_or ws outputs_at 0 in
        let c : List ℕ = take nc (drop body_at ws) in
        let o : List ℕ = take no (drop nc (drop body_at ws)) in
        let r : Row = record { conditions = c; outputs = o } in
        let s = and_both (eqb (get_or ws condition_groups_at 0) 0) _ ok in
        let t = and_both (climbs n 1 c && climbs n 0 o) _ s.1 in
        let k = and_both (climbs n 1 c) (climbs n 0 o) t.0 in
        let v = and_both (leb (2 * (nc + no)) (3 * (length (groups c) + length (groups o)))) _ t.1 in
        let kc = and_both (below (2 * n) c) (ascending (map atom c)) (sym (climbs-conditions n c) ∙ k.0) in
        let ko = and_both (below (2 * n) o) (ascending o) (sym (climbs-outputs n o) ∙ k.1) in
        let wide = leb-true (2 * (nc + no)) (3 * (length (groups c) + length (groups o))) v.0 in
        let ld = all-long in
        let lc : length c ≡ nc = length-take-le nc (drop body_at ws) (omega arith) in
        let lo : length o ≡ no = length-take-le no (drop nc (drop body_at ws)) (omega (arith, length-drop nc (drop body_at ws))) in
        let er : row_in ws ≡ r = row-scalar ws z in
        let pk : packed r ≡ false = scalar-form r (omega arith) in
        let eb : c ++ o ≡ take (nc + no) (body_in ws) =
        sym (take-add nc no (drop body_at ws)) ∙ sym (take-take (nc + no) body_words (drop body_at ws) (omega arith)) in
        subst (λ (x : Row). Parts n x → length x.conditions ≡ nc → length x.outputs ≡ no →
        if_packed x (group_count x) ≡ get_or ws total_groups_at 0 → if_packed x (length (groups x.conditions)) ≡ get_or ws condition_groups_at 0
        → tail x ≡ body_in ws → slot_ok n born ws ≡ true)
        er slot-back
        (record {
          few = omega arith;
          many = omega arith;
          conditions_under = kc.0;
          outputs_under = ko.0;
          conditions_rise = kc.1;
          outputs_rise = ko.1;
        })
        lc lo
        (if-packed r false (group_count r) pk ∙ sym z)
        (if-packed r false (length (groups c)) pk ∙ sym (eqb-true (get_or ws condition_groups_at 0) 0 s.0))
        (tail-is r (c ++ o) (body-scalar r pk) ∙ fill-back (body_in ws) (c ++ o) (nc + no) body-long (omega arith) eb v.1)

    packed-back : get_or ws conditions_at 0 ≤ max_conditions → get_or ws outputs_at 0 ≤ max_outputs → (get_or ws total_groups_at 0 ≡ 0 → ⊥)
        → packed_ok n ws ≡ true → slot_ok n born ws ≡ true
    unfolding packed_ok group_count
    packed-back few many z ok =
        let nc : ℕ = get_or ws conditions_at 0 in
        let no : ℕ = get_or ws outputs_at 0 in
        let w : ℕ = get_or ws total_groups_at 0 in
        let g : ℕ = get_or ws condition_groups_at 0 in
        let pc : List ℕ = take (group_length * g) (drop body_at ws) in
        let po : List ℕ = take (group_length * (w - g)) (drop (group_length * g) (drop body_at ws)) in
        let r : Row = packed_row ws in
        let s = and_both (leb g w && ltb (3 * w) (2 * (nc + no))) _ ok in
        let f = and_both (leb g w) (ltb (3 * w) (2 * (nc + no))) s.0 in
        let t = and_both (groups_ok true n 0 pc && groups_ok false n 0 po) _ s.1 in
        let k = and_both (groups_ok true n 0 pc) (groups_ok false n 0 po) t.0 in
        let v = and_both (eqb (code_count pc) nc && eqb (code_count po) no) _ t.1 in
        let q = and_both (eqb (code_count pc) nc) (eqb (code_count po) no) v.0 in
        let part : g ≤ w = leb-true g w f.0 in
        let dense : 3 * w < 2 * (nc + no) = ltb-true (3 * w) (2 * (nc + no)) f.1 in
        let bc : Back true n 0 pc = groups-back true n 0 pc k.0 in
        let bo : Back false n 0 po = groups-back false n 0 po k.1 in
        let ld = all-long in
        let lc : length (ungroup pc) ≡ nc = bc.long ∙ eqb-true (code_count pc) nc q.0 in
        let lo : length (ungroup po) ≡ no = bo.long ∙ eqb-true (code_count po) no q.1 in
        let lpc : length pc ≡ group_length * g = length-take-le (group_length * g) (drop body_at ws) (omega arith) in
        let lpo : length po ≡ group_length * (w - g) =
        length-take-le (group_length * (w - g)) (drop (group_length * g) (drop body_at ws))
        (omega (arith, length-drop (group_length * g) (drop body_at ws))) in
        let gc : group_length * length (groups (ungroup pc)) ≡ group_length * g =
        sym (words-length (groups (ungroup pc))) ∙ ap length bc.words ∙ lpc in
        let go : group_length * length (groups (ungroup po)) ≡ group_length * (w - g) =
        sym (words-length (groups (ungroup po))) ∙ ap length bo.words ∙ lpo in
        let gg : length (groups (ungroup pc)) + length (groups (ungroup po)) ≡ w = omega arith in
        let pk : packed r ≡ true = packed-form r (omega arith) in
        let sw : group_length * g + group_length * (w - g) ≡ group_length * w = omega arith in
        let eb : packs (ungroup pc) ++ packs (ungroup po) ≡ take (group_length * w) (body_in ws) =
        ap₂ (λ (x y : List ℕ). x ++ y) bc.words bo.words ∙ sym (take-add (group_length * g) (group_length * (w - g)) (drop body_at ws))
        ∙ ap (λ (m : ℕ). take m (drop body_at ws)) sw ∙ sym (take-take (group_length * w) body_words (drop body_at ws) (omega arith)) in
        subst (λ (x : Row). Parts n x → length x.conditions ≡ nc → length x.outputs ≡ no →
        if_packed x (group_count x) ≡ w → if_packed x (length (groups x.conditions)) ≡ g → tail x ≡ body_in ws
        → slot_ok n born ws ≡ true)
        (row-packed ws z) slot-back
        (record {
          few = omega arith;
          many = omega arith;
          conditions_under = under-below (2 * n) (ungroup pc) bc.under;
          outputs_under = under-below (2 * n) (ungroup po) bo.under;
          conditions_rise = asc-ascending (64 * 0) (map atom (ungroup pc)) (bc.atoms refl);
          outputs_rise = asc-ascending (2 * (64 * 0)) (ungroup po) bo.codes;
        })
        lc lo
        (if-packed r true (group_count r) pk ∙ gg)
        (if-packed r true (length (groups (ungroup pc))) pk ∙ omega arith)
        (tail-is r (packs (ungroup pc) ++ packs (ungroup po)) (body-packed r pk)
        ∙ fill-back (body_in ws) (packs (ungroup pc) ++ packs (ungroup po)) (group_length * w) body-long (omega arith) eb v.1)

  passed : words_pass n born ws ≡ true → slot_ok n born ws ≡ true
  unfolding words_pass head_ok
  passed ok =
      let s = and_both (head_ok born ws) _ ok in
      let h = and_both (leb (get_or ws conditions_at 0) max_conditions && leb (get_or ws outputs_at 0) max_outputs) _ s.0 in
      let a = and_both (leb (get_or ws conditions_at 0) max_conditions) (leb (get_or ws outputs_at 0) max_outputs) h.0 in
      let b = and_both (leb 1 (get_or ws born_at 0) && leb (get_or ws born_at 0) born) _ h.1 in
      let d = and_both (leb (get_or ws delivered_at 0) 1) (leb (get_or ws source_at 0) 1) b.1 in
      let few = leb-true (get_or ws conditions_at 0) max_conditions a.0 in
      let many = leb-true (get_or ws outputs_at 0) max_outputs a.1 in
      let flagged = leb-true (get_or ws delivered_at 0) 1 d.0 in
      let sourced = leb-true (get_or ws source_at 0) 1 d.1 in
      by (ℕ_discrete (get_or ws total_groups_at 0) 0) few many b.0 flagged sourced s.1
    where
      by : Dec (get_or ws total_groups_at 0 ≡ 0) → get_or ws conditions_at 0 ≤ max_conditions → get_or ws outputs_at 0 ≤ max_outputs
          → (leb 1 (get_or ws born_at 0) && leb (get_or ws born_at 0) born) ≡ true → get_or ws delivered_at 0 ≤ 1 → get_or ws source_at 0 ≤ 1 →
          (elim (eqb (get_or ws total_groups_at 0) 0) as (λ k. Bool) [ true ↦ scalar_ok n ws | false ↦ packed_ok n ws ]) ≡ true
          → slot_ok n born ws ≡ true
      by (yes z) few many b f s t =
          scalar-back b f s few many z (sym
          (ap (λ (q : Bool). elim q as (λ k. Bool) [ true ↦ scalar_ok n ws | false ↦ packed_ok n ws ]) (eq-eqb (get_or ws total_groups_at 0) 0 z))
          ∙ t)
      by (no z) few many b f s t =
          packed-back b f s few many z (sym
          (ap (λ (q : Bool). elim q as (λ k. Bool) [ true ↦ scalar_ok n ws | false ↦ packed_ok n ws ]) (ne_eqb (get_or ws total_groups_at 0) 0 z))
          ∙ t)

-- the tests are the definition
pub words-slot : (n born : ℕ) (ws : List ℕ) → length ws ≡ slot_words → words_pass n born ws ≡ slot_ok n born ws
words-slot n born ws long =
    bool-ext (words_pass n born ws) (slot_ok n born ws) (λ t. T_of (passed n born ws long (T_true (words_pass n born ws) t)))
    (λ t. T_of (passes n born ws (T_true (slot_ok n born ws) t)))
