-- The check of a slot by the ways that it ends: one test that fails, or all that pass. Assumes nothing.
use mathlib.Core.Path.{◌≡◌, refl, sym, ap, ap₂, ◌∙◌}
use mathlib.Core.Bool.{Bool, true, false, ◌&&◌, not}
use mathlib.Core.List.{List}
use Prim.Native.Nat.{ℕ, ◌+◌, ◌-◌, ◌*◌, ◌≤◌, ◌<◌}
use native.Mathlib.Omega.{arith}
use lib.Dec.{eqb, leb, ltb}
use lib.ListN.{length, get_or, take, drop}
use lib.Seq.{drop-drop}
use borrow.Author.Tests.{eq-eqb, ne_eqb, lt-ltb, le-ltb, le-leb, lt-leb}
use Rattle.std.specs.Prelude.{Option, Some}
use Rattle.std.specs.Option.{option_eq}
use Rattle.std.proofs.lemmas.Bool.{not-false, not-true}
use Rattle.lists.proofs.Bools.{and_yes, no-left, no-right}
use Rattle.lists.proofs.Concats.{drop-take}
use Rattle.words.specs.Codes.{climbs, runs}
use Rattle.model.specs.Records.{slot_words, max_conditions, max_outputs, conditions_at, outputs_at, total_groups_at, condition_groups_at, born_at}
use Rattle.model.specs.Records.{delivered_at, body_at, body_words, source_at, group_length, max_groups}
use Rattle.model.specs.Rows.{groups}
use Rattle.model.proofs.Packing.{groups-runs}
use Rattle.slots_check.specs.Check.{groups_ok, code_count, side_codes, all_zero, head_ok, body_in, scalar_ok, packed_ok, words_pass}
use Rattle.slots_check.specs.Check.{slot_ok}
use Rattle.slots_check.proofs.Loops.{side-test}
use Rattle.slots_check.proofs.Slot.{words-slot}

after : (x y z : Bool) → x ≡ true → z ≡ y → z ≡ (x && y)
after x y z e f = f ∙ sym (ap (λ (b : Bool). b && y) e)

-- two tests of each of two sides: test by test, and side by side
by-sides : (a b c d e : Bool) → ((a && b) && ((c && d) && e)) ≡ (((a && c) && (b && d)) && e)
by-sides true true c d e = refl
by-sides true false true d e = refl
by-sides true false false d e = refl
by-sides false b c d e = refl

-- ---- the parts of a slot that the code lends
first_part : (ws : List ℕ) (b n : ℕ) → take ((b + n) - b) (drop b ws) ≡ take n (drop b ws)
first_part ws b n = let e : (b + n) - b ≡ n = omega arith in ap (λ (k : ℕ). take k (drop b ws)) e

next-part : (ws : List ℕ) (b n e m : ℕ) → e ≡ b + n + m → take (e - (b + n)) (drop (b + n) ws) ≡ take m (drop n (drop b ws))
next-part ws b n e m q =
    let k : e - (b + n) ≡ m = omega arith in
    ap (λ (i : ℕ). take i (drop (b + n) ws)) k ∙ ap (take m) (sym (drop-drop n b ws))

-- .. up to the source
last-part : (ws : List ℕ) (n : ℕ) → take (source_at - (body_at + n)) (drop (body_at + n) ws) ≡ drop n (body_in ws)
last-part ws n =
    let k : source_at - (body_at + n) ≡ body_words - n = omega arith in
    ap₂ (λ (m : ℕ) (l : List ℕ). take m l) k (sym (drop-drop n body_at ws)) ∙ sym (drop-take n body_words (drop body_at ws))

-- ---- scalar
module _ (n : ℕ) (ws : List ℕ) where
  abbrev nc : ℕ
  nc = get_or ws conditions_at 0

  abbrev no : ℕ
  no = get_or ws outputs_at 0

  abbrev cs : List ℕ
  cs = take nc (drop body_at ws)

  abbrev os : List ℕ
  os = take no (drop nc (drop body_at ws))

  -- the five tests
  abbrev s1 : Bool
  s1 = eqb (get_or ws condition_groups_at 0) 0

  abbrev s2 : Bool
  s2 = climbs n 1 cs

  abbrev s3 : Bool
  s3 = climbs n 0 os

  abbrev s4 : Bool
  s4 = leb (2 * (nc + no)) (3 * (length (groups cs) + length (groups os)))

  abbrev s5 : Bool
  s5 = all_zero (drop (nc + no) (body_in ws))

  pub scalar-groups : (get_or ws condition_groups_at 0 ≡ 0 → ⊥) → false ≡ scalar_ok n ws
  unfolding scalar_ok
  scalar-groups f = sym (no-left s1 ((s2 && s3) && (s4 && s5)) (ne_eqb (get_or ws condition_groups_at 0) 0 f))

  pub scalar-conditions : climbs n 1 (take ((body_at + nc) - body_at) (drop body_at ws)) ≡ false → false ≡ scalar_ok n ws
  unfolding scalar_ok
  scalar-conditions e =
      sym (no-right s1 ((s2 && s3) && (s4 && s5))
      (no-left (s2 && s3) (s4 && s5) (no-left s2 s3 (ap (climbs n 1) (sym (first_part ws body_at nc)) ∙ e))))

  pub scalar-outputs : climbs n 0 (take ((body_at + nc + no) - (body_at + nc)) (drop (body_at + nc) ws)) ≡ false
      → false ≡ scalar_ok n ws
  unfolding scalar_ok
  scalar-outputs e =
      sym (no-right s1 ((s2 && s3) && (s4 && s5))
      (no-left (s2 && s3) (s4 && s5)
      (no-right s2 s3 (ap (climbs n 0) (sym (next-part ws body_at nc (body_at + nc + no) no refl)) ∙ e))))

  module _ (wc wo : ℕ) (ec : wc ≡ runs 7 (take ((body_at + nc) - body_at) (drop body_at ws)))
      (eo : wo ≡ runs 7 (take ((body_at + nc + no) - (body_at + nc)) (drop (body_at + nc) ws))) where
    gc : length (groups cs) ≡ wc
    gc = groups-runs cs ∙ sym (ec ∙ ap (runs 7) (first_part ws body_at nc))

    go : length (groups os) ≡ wo
    go = groups-runs os ∙ sym (eo ∙ ap (runs 7) (next-part ws body_at nc (body_at + nc + no) no refl))

    pub scalar-form : 3 * (wc + wo) < 2 * (nc + no) → false ≡ scalar_ok n ws
    unfolding scalar_ok
    scalar-form h =
        let a = gc in
        let b = go in
        sym (no-right s1 ((s2 && s3) && (s4 && s5))
        (no-right (s2 && s3) (s4 && s5)
        (no-left s4 s5 (lt-leb (2 * (nc + no)) (3 * (length (groups cs) + length (groups os))) (omega arith)))))

    pub scalar-rest : (b : Bool) → get_or ws condition_groups_at 0 ≡ 0 → climbs n 1 (take ((body_at + nc) - body_at) (drop body_at ws)) ≡ true
        →
        climbs n 0 (take ((body_at + nc + no) - (body_at + nc)) (drop (body_at + nc) ws)) ≡ true → 2 * (nc + no) ≤ 3 * (wc + wo) →
        b ≡ all_zero (take (source_at - (body_at + nc + no)) (drop (body_at + nc + no) ws)) → b ≡ scalar_ok n ws
    unfolding scalar_ok
    scalar-rest b z c o h e =
        let x = gc in
        let y = go in
        let s : body_at + nc + no ≡ body_at + (nc + no) = omega arith in
        after s1 ((s2 && s3) && (s4 && s5)) b (eq-eqb (get_or ws condition_groups_at 0) 0 z)
        (after (s2 && s3) (s4 && s5) b
        (ap (λ (t : Bool). t && climbs n 0 os) (ap (climbs n 1) (sym (first_part ws body_at nc)) ∙ c)
        ∙ ap (climbs n 0) (sym (next-part ws body_at nc (body_at + nc + no) no refl)) ∙ o)
        (after s4 s5 b (le-leb (2 * (nc + no)) (3 * (length (groups cs) + length (groups os))) (omega arith))
        (e ∙ ap (λ (k : ℕ). all_zero (take (source_at - k) (drop k ws))) s ∙ ap all_zero (last-part ws (nc + no)))))

-- ---- packed
module _ (n : ℕ) (ws : List ℕ) where
  abbrev kc : ℕ
  kc = get_or ws conditions_at 0

  abbrev ko : ℕ
  ko = get_or ws outputs_at 0

  abbrev w : ℕ
  w = get_or ws total_groups_at 0

  abbrev g : ℕ
  g = get_or ws condition_groups_at 0

  abbrev ps : List ℕ
  ps = take (group_length * g) (drop body_at ws)

  abbrev qs : List ℕ
  qs = take (group_length * (w - g)) (drop (group_length * g) (drop body_at ws))

  -- the seven tests
  abbrev t1 : Bool
  t1 = leb g w

  abbrev t2 : Bool
  t2 = ltb (3 * w) (2 * (kc + ko))

  abbrev t3 : Bool
  t3 = groups_ok true n 0 ps

  abbrev t4 : Bool
  t4 = groups_ok false n 0 qs

  abbrev t5 : Bool
  t5 = eqb (code_count ps) kc

  abbrev t6 : Bool
  t6 = eqb (code_count qs) ko

  abbrev t7 : Bool
  t7 = all_zero (drop (group_length * w) (body_in ws))

  -- the tests of both sides, as the code has them
  abbrev u1 : Bool
  u1 = option_eq eqb (side_codes true n ps) (Some kc)

  abbrev u2 : Bool
  u2 = option_eq eqb (side_codes false n qs) (Some ko)

  pub packed-parts : w < g → false ≡ packed_ok n ws
  unfolding packed_ok
  packed-parts h = sym (no-left (t1 && t2) ((t3 && t4) && ((t5 && t6) && t7)) (no-left t1 t2 (lt-leb g w h)))

  pub packed-form : 2 * (kc + ko) ≤ 3 * w → false ≡ packed_ok n ws
  unfolding packed_ok
  packed-form h = sym (no-left (t1 && t2) ((t3 && t4) && ((t5 && t6) && t7)) (no-right t1 t2 (le-ltb (3 * w) (2 * (kc + ko)) h)))

  first-groups : take ((body_at + group_length * g) - body_at) (drop body_at ws) ≡ ps
  first-groups = first_part ws body_at (group_length * g)

  next-groups : g ≤ w → take ((body_at + group_length * w) - (body_at + group_length * g)) (drop (body_at + group_length * g) ws) ≡ qs
  next-groups h = next-part ws body_at (group_length * g) (body_at + group_length * w) (group_length * (w - g)) (omega arith)

  pub packed-many : kc ≤ max_conditions → ko ≤ max_outputs → max_groups < w → false ≡ packed_ok n ws
  packed-many few most h = packed-form (omega arith)

  packed-sides : packed_ok n ws ≡ ((t1 && t2) && ((u1 && u2) && t7))
  unfolding packed_ok
  packed-sides =
      ap (λ (b : Bool). (t1 && t2) && b)
      (by-sides t3 t4 t5 t6 t7 ∙ sym (ap₂ (λ (x y : Bool). (x && y) && t7) (side-test true n ps kc) (side-test false n qs ko)))

  sides-no : (u1 && u2) ≡ false → false ≡ packed_ok n ws
  sides-no e = sym (packed-sides ∙ no-right (t1 && t2) ((u1 && u2) && t7) (no-left (u1 && u2) t7 e))

  -- the codes of both sides, as the code counts them in the words that it lends
  module _ (r : Option ℕ) (e : r ≡ side_codes true n (take ((body_at + group_length * g) - body_at) (drop body_at ws))) where
    first-test : option_eq eqb r (Some kc) ≡ u1
    first-test = ap (λ (o : Option ℕ). option_eq eqb o (Some kc)) (e ∙ ap (side_codes true n) first-groups)

    pub packed-conditions : true ≡ not (option_eq eqb r (Some kc)) → false ≡ packed_ok n ws
    packed-conditions f = sides-no (no-left u1 u2 (sym first-test ∙ not-true _ (sym f)))

    module _ (q : Option ℕ) (h : g ≤ w) (d : q ≡ side_codes false n
        (take ((body_at + group_length * w) - (body_at + group_length * g)) (drop (body_at + group_length * g) ws))) where
      next-test : option_eq eqb q (Some ko) ≡ u2
      next-test = ap (λ (o : Option ℕ). option_eq eqb o (Some ko)) (d ∙ ap (side_codes false n) (next-groups h))

      pub packed-outputs : true ≡ not (option_eq eqb q (Some ko)) → false ≡ packed_ok n ws
      packed-outputs f = sides-no (no-right u1 u2 (sym next-test ∙ not-true _ (sym f)))

      pub packed-rest : (b : Bool) → 3 * w < 2 * (kc + ko)
          → false ≡ not (option_eq eqb r (Some kc)) → false ≡ not (option_eq eqb q (Some ko))
          → b ≡ all_zero (take (source_at - (body_at + group_length * w)) (drop (body_at + group_length * w) ws)) → b ≡ packed_ok n ws
      packed-rest b l i j z =
          after (t1 && t2) ((u1 && u2) && t7) b (and_yes t1 t2 (le-leb g w h) (lt-ltb (3 * w) (2 * (kc + ko)) l))
          (after (u1 && u2) t7 b
          (and_yes u1 u2 (sym first-test ∙ not-false _ (sym i)) (sym next-test ∙ not-false _ (sym j)))
          (z ∙ ap all_zero (last-part ws (group_length * w))))
          ∙ sym packed-sides

-- ---- a slot
module _ (n born : ℕ) (ws : List ℕ) (long : length ws ≡ slot_words) where
  -- the tests of the head, and of the body
  abbrev h1 : Bool
  h1 = leb (get_or ws conditions_at 0) max_conditions

  abbrev h2 : Bool
  h2 = leb (get_or ws outputs_at 0) max_outputs

  abbrev h3 : Bool
  h3 = leb 1 (get_or ws born_at 0)

  abbrev h4 : Bool
  h4 = leb (get_or ws born_at 0) born

  abbrev h5 : Bool
  h5 = leb (get_or ws delivered_at 0) 1

  abbrev h6 : Bool
  h6 = leb (get_or ws source_at 0) 1

  abbrev formed : Bool
  formed = elim (eqb (get_or ws total_groups_at 0) 0) [ true ↦ scalar_ok n ws | false ↦ packed_ok n ws ]

  head-no : head_ok born ws ≡ false → false ≡ slot_ok n born ws
  unfolding words_pass
  head-no e = sym (no-left (head_ok born ws) formed e) ∙ words-slot n born ws long

  pub slot-conditions : max_conditions < get_or ws conditions_at 0 → false ≡ slot_ok n born ws
  unfolding head_ok
  slot-conditions h =
      head-no (no-left (h1 && h2) ((h3 && h4) && (h5 && h6)) (no-left h1 h2 (lt-leb (get_or ws conditions_at 0) max_conditions h)))

  pub slot-outputs : max_outputs < get_or ws outputs_at 0 → false ≡ slot_ok n born ws
  unfolding head_ok
  slot-outputs h = head-no (no-left (h1 && h2) ((h3 && h4) && (h5 && h6)) (no-right h1 h2 (lt-leb (get_or ws outputs_at 0) max_outputs h)))

  pub slot-unborn : get_or ws born_at 0 < 1 → false ≡ slot_ok n born ws
  unfolding head_ok
  slot-unborn h = head-no (no-right (h1 && h2) ((h3 && h4) && (h5 && h6))
      (no-left (h3 && h4) (h5 && h6) (no-left h3 h4 (lt-leb 1 (get_or ws born_at 0) h))))

  pub slot-late : born < get_or ws born_at 0 → false ≡ slot_ok n born ws
  unfolding head_ok
  slot-late h = head-no (no-right (h1 && h2) ((h3 && h4) && (h5 && h6))
      (no-left (h3 && h4) (h5 && h6) (no-right h3 h4 (lt-leb (get_or ws born_at 0) born h))))

  pub slot-flag : 1 < get_or ws delivered_at 0 → false ≡ slot_ok n born ws
  unfolding head_ok
  slot-flag h = head-no (no-right (h1 && h2) ((h3 && h4) && (h5 && h6))
      (no-right (h3 && h4) (h5 && h6) (no-left h5 h6 (lt-leb (get_or ws delivered_at 0) 1 h))))

  pub slot-source : 1 < get_or ws source_at 0 → false ≡ slot_ok n born ws
  unfolding head_ok
  slot-source h =
      head-no (no-right (h1 && h2) ((h3 && h4) && (h5 && h6))
      (no-right (h3 && h4) (h5 && h6) (no-right h5 h6 (lt-leb (get_or ws source_at 0) 1 h))))

  module _ (a : get_or ws conditions_at 0 ≤ max_conditions) (b : get_or ws outputs_at 0 ≤ max_outputs) (c : 1 ≤ get_or ws born_at 0)
      (d : get_or ws born_at 0 ≤ born) (e : get_or ws delivered_at 0 ≤ 1) (f : get_or ws source_at 0 ≤ 1) where
    head-yes : head_ok born ws ≡ true
    unfolding head_ok
    head-yes =
        and_yes _ _ (and_yes _ _ (le-leb (get_or ws conditions_at 0) max_conditions a) (le-leb (get_or ws outputs_at 0) max_outputs b))
        (and_yes _ _ (and_yes _ _ (le-leb 1 (get_or ws born_at 0) c) (le-leb (get_or ws born_at 0) born d))
        (and_yes _ _ (le-leb (get_or ws delivered_at 0) 1 e) (le-leb (get_or ws source_at 0) 1 f)))

    pub slot-scalar : (r : Bool) → get_or ws total_groups_at 0 ≡ 0 → r ≡ scalar_ok n ws → r ≡ slot_ok n born ws
    unfolding words_pass
    slot-scalar r z q =
        after (head_ok born ws) formed r head-yes
        (q
        ∙ sym (ap (λ (t : Bool). elim t as (λ k. Bool) [ true ↦ scalar_ok n ws | false ↦ packed_ok n ws ])
        (eq-eqb (get_or ws total_groups_at 0) 0 z)))
        ∙ words-slot n born ws long

    pub slot-packed : (r : Bool) → (get_or ws total_groups_at 0 ≡ 0 → ⊥) → r ≡ packed_ok n ws → r ≡ slot_ok n born ws
    unfolding words_pass
    slot-packed r z q =
        after (head_ok born ws) formed r head-yes
        (q
        ∙ sym (ap (λ (t : Bool). elim t as (λ k. Bool) [ true ↦ scalar_ok n ws | false ↦ packed_ok n ws ])
        (ne_eqb (get_or ws total_groups_at 0) 0 z)))
        ∙ words-slot n born ws long
