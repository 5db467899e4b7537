-- Which words are laid out as a row: any scalar ones within the limits, packed ones with sound groups, slots and proposals.
-- Assumes nothing.
use mathlib.Core.Path.{◌≡◌, sym, ap, ◌∙◌, subst}
use mathlib.Core.Bool.{Bool, true, false, true≢false, false≢true}
use mathlib.Core.List.{List}
use Prim.Native.Nat.{ℕ, ◌+◌, ◌-◌, ◌*◌, ◌≤◌, ◌<◌}
use native.Mathlib.Omega.{arith}
use lib.Bits.{bit_or}
use lib.ListN.{length, get_or, take, drop, length-drop}
use lib.Seq.{drop-drop, length-take-le}
use borrow.Author.Tests.{eq-eqb, ne_eqb}
use Rattle.model.specs.Records.{Row, slot_words, conditions_at, outputs_at, total_groups_at, condition_groups_at, body_at, group_length}
use Rattle.words.specs.Literal.{words_wide}
use Rattle.model.specs.Rows.{packed}
use Rattle.model.specs.Slots.{if_packed, row_in, ungroup}
use Rattle.slots.specs.Cursor.{literals_at, list_of, SoundWide}
use Rattle.slots.specs.Layout.{Counted, LaidWide, row_of}
use Rattle.slots.proofs.Sides.{scalar, grouped, condition-scalar, condition-packed, output-scalar, output-packed}

-- ---- the row by the form
module _ (ws : List ℕ) where
  abbrev single : Row
  single =
      row_of (take (get_or ws conditions_at 0) (drop body_at ws))
      (take (get_or ws outputs_at 0) (drop (get_or ws conditions_at 0) (drop body_at ws)))

  abbrev several : Row
  several =
      row_of (ungroup (take (group_length * get_or ws condition_groups_at 0) (drop body_at ws)))
      (ungroup
      (take (group_length * (get_or ws total_groups_at 0 - get_or ws condition_groups_at 0))
      (drop (group_length * get_or ws condition_groups_at 0) (drop body_at ws))))

  pub row-scalar : get_or ws total_groups_at 0 ≡ 0
      → row_in ws ≡ row_of (take (get_or ws conditions_at 0) (drop body_at ws))
      (take (get_or ws outputs_at 0) (drop (body_at + get_or ws conditions_at 0) ws))
  unfolding row_in
  row-scalar e =
      ap (λ (b : Bool). elim b as (λ k. Row) [ true ↦ single | false ↦ several ]) (eq-eqb (get_or ws total_groups_at 0) 0 e)
      ∙ ap (λ (l : List ℕ). row_of (take (get_or ws conditions_at 0) (drop body_at ws)) (take (get_or ws outputs_at 0) l))
      (drop-drop (get_or ws conditions_at 0) body_at ws)

  pub row-packed : (get_or ws total_groups_at 0 ≡ 0 → ⊥)
      → row_in ws ≡ row_of (ungroup (take (group_length * get_or ws condition_groups_at 0) (drop body_at ws)))
      (ungroup
      (take (group_length * (get_or ws total_groups_at 0 - get_or ws condition_groups_at 0))
      (drop (body_at + group_length * get_or ws condition_groups_at 0) ws)))
  unfolding row_in
  row-packed f =
      ap (λ (b : Bool). elim b as (λ k. Row) [ true ↦ single | false ↦ several ]) (ne_eqb (get_or ws total_groups_at 0) 0 f)
      ∙ ap (λ (l : List ℕ). row_of (ungroup (take (group_length * get_or ws condition_groups_at 0) (drop body_at ws)))
      (ungroup (take (group_length * (get_or ws total_groups_at 0 - get_or ws condition_groups_at 0)) l)))
      (drop-drop (group_length * get_or ws condition_groups_at 0) body_at ws)

-- ---- what a slot holds by the row's form
pub if-scalar : (r : Row) (n : ℕ) → packed r ≡ false → if_packed r n ≡ 0
unfolding if_packed
if-scalar r n k = ap (λ (b : Bool). elim b as (λ x. ℕ) [ true ↦ n | false ↦ 0 ]) k

pub if-packed : (r : Row) (n : ℕ) → packed r ≡ true → if_packed r n ≡ n
unfolding if_packed
if-packed r n k = ap (λ (b : Bool). elim b as (λ x. ℕ) [ true ↦ n | false ↦ 0 ]) k

-- ---- scalar words within the limits
sound-scalar : {w : ℕ} (ws : List ℕ) (b n : ℕ) → b + n ≤ length ws → SoundWide w ws (scalar b n)
sound-scalar ws b n h = record {
  single = λ e. h;
  whole = λ e. absurd (false≢true e);
  small = λ e. absurd (false≢true e);
  some = λ e. absurd (false≢true e);
}

take-length : (ws : List ℕ) (b n : ℕ) → b + n ≤ length ws → length (take n (drop b ws)) ≡ n
take-length ws b n h = length-take-le n (drop b ws) (omega (arith, length-drop b ws))

pub laid-scalar : {w : ℕ} (ws : List ℕ) → length ws ≡ slot_words → Counted ws → get_or ws total_groups_at 0 ≡ 0 → LaidWide w ws
unfolding list_of literals_at
laid-scalar {w} ws l c z =
    let few = c.few in
    let most = c.most in
    let r = row-scalar ws z in
    record {
      long = l;
      counted = c;
      first = subst (SoundWide w ws) (sym (condition-scalar ws z)) (sound-scalar ws body_at (get_or ws conditions_at 0) (omega arith));
      second = subst (SoundWide w ws) (sym (output-scalar ws z))
          (sound-scalar ws (body_at + get_or ws conditions_at 0) (get_or ws outputs_at 0) (omega arith));
      conditions = ap (list_of ws) (condition-scalar ws z) ∙ sym (ap (λ (k : Row). k.conditions) r);
      outputs = ap (list_of ws) (output-scalar ws z) ∙ sym (ap (λ (k : Row). k.outputs) r);
      condition_count = ap (λ (k : Row). length k.conditions) r ∙ take-length ws body_at (get_or ws conditions_at 0) (omega arith);
      output_count = ap (λ (k : Row). length k.outputs) r
          ∙ take-length ws (body_at + get_or ws conditions_at 0) (get_or ws outputs_at 0) (omega arith);
    }

-- ---- packed words whose groups have an index in range and some bit
abbrev pub Filled : ℕ → List ℕ → ℕ → Type 0
Filled w ws at = (get_or ws at 0 < words_wide w) × (0 < bit_or (get_or ws (at + 2) 0) (get_or ws (at + 1) 0))

sound-grouped : {w : ℕ} (ws : List ℕ) (b n : ℕ) → b + group_length * n ≤ length ws → ((g : ℕ) → g < n → Filled w ws (b + group_length * g))
    → SoundWide w ws (grouped b n)
sound-grouped ws b n h f = record {
  single = λ e. absurd (true≢false e);
  whole = λ e. h;
  small = λ e g k. (f g k).0;
  some = λ e g k. (f g k).1;
}

pub laid-packed : {w : ℕ} (ws : List ℕ) → length ws ≡ slot_words → Counted ws → (get_or ws total_groups_at 0 ≡ 0 → ⊥)
    → ((g : ℕ) → g < get_or ws total_groups_at 0 → Filled w ws (body_at + group_length * g))
    → length (row_in ws).conditions ≡ get_or ws conditions_at 0 → length (row_in ws).outputs ≡ get_or ws outputs_at 0 → LaidWide w ws
unfolding list_of literals_at
laid-packed {w} ws l c z f lc lo =
    let parts = c.parts in
    let words = c.words in
    let r = row-packed ws z in
    record {
      long = l;
      counted = c;
      first = subst (SoundWide w ws) (sym (condition-packed ws z))
          (sound-grouped ws body_at (get_or ws condition_groups_at 0) (omega arith) (λ g h. f g (omega arith)));
      second = subst (SoundWide w ws) (sym (output-packed ws z))
          (sound-grouped ws (body_at + group_length * get_or ws condition_groups_at 0)
          (get_or ws total_groups_at 0 - get_or ws condition_groups_at 0)
          (omega arith)
          (λ g h. let e : body_at + group_length * (get_or ws condition_groups_at 0 + g)
          ≡ body_at + group_length * get_or ws condition_groups_at 0 + group_length * g = omega arith in
          subst (Filled w ws) e (f (get_or ws condition_groups_at 0 + g) (omega arith))));
      conditions = ap (list_of ws) (condition-packed ws z) ∙ sym (ap (λ (k : Row). k.conditions) r);
      outputs = ap (list_of ws) (output-packed ws z) ∙ sym (ap (λ (k : Row). k.outputs) r);
      condition_count = lc;
      output_count = lo;
    }
