-- A proposal's words: its row, its counts, its two lists. Assumes nothing.
use mathlib.Core.Path.{◌≡◌, refl, sym, ◌∙◌, ap, subst}
use mathlib.Core.List.{List, ◌++◌}
use mathlib.Core.Bool.{true}
use Prim.Native.Nat.{ℕ, suc, ◌+◌, ◌-◌, ◌*◌, ◌≤◌}
use native.Mathlib.Omega.{arith}
use lib.ListN.{length, get_or, take, drop, replicate, length-append, length-replicate}
use Rattle.lists.specs.Lists.{pad, below}
use Rattle.model.specs.Records.{Row, max_conditions, max_outputs, slot_words, is_row, conditions_at, outputs_at}
use Rattle.model.specs.Records.{total_groups_at, condition_groups_at, body_at}
use Rattle.model.specs.Slots.{row_in}
use Rattle.model.proofs.Rows.{row-parts, row_more}
use Rattle.slots.specs.Layout.{proposal, Laid}
use Rattle.slots.proofs.Laying.{row-scalar, laid-scalar}
use Rattle.slots.proofs.Storing.{row-proposal}
use Rattle.row_propose.specs.Proposed.{ProposedOver}

-- what a proposal's words say
record Says (r : Row) (ws : List ℕ) : Type 0 where
  conditions : get_or ws conditions_at 0 ≡ length r.conditions
  outputs : get_or ws outputs_at 0 ≡ length r.outputs
  total : get_or ws total_groups_at 0 ≡ 0
  first : get_or ws condition_groups_at 0 ≡ 0

says : (r : Row) → Says r (proposal r)
unfolding proposal pad
says r = record { conditions = refl; outputs = refl; total = refl; first = refl }

proposal-long : (r : Row) → length r.conditions ≤ max_conditions → length r.outputs ≤ max_outputs → length (proposal r) ≡ slot_words
unfolding proposal pad
proposal-long r f m =
    let k : ℕ = length (r.conditions ++ r.outputs) in
    let n : ℕ = suc (suc (suc (suc (suc (suc (suc (suc k))))))) in
    omega (
      arith,
      length-append (r.conditions ++ r.outputs) (replicate (slot_words - n) 0),
      length-append r.conditions r.outputs,
      length-replicate {A = ℕ} (slot_words - n) 0,
    )

pub proposed-row : {n : ℕ} (r : Row) → length r.conditions ≤ max_conditions → length r.outputs ≤ max_outputs →
    below (2 * n) r.conditions ≡ true → below (2 * n) r.outputs ≡ true → ProposedOver n (proposal r)
proposed-row {n} r f m c o =
    record {
      form = ap proposal (row-proposal r);
      few = subst (λ (q : Row). length q.conditions ≤ max_conditions) (sym (row-proposal r)) f;
      many = subst (λ (q : Row). length q.outputs ≤ max_outputs) (sym (row-proposal r)) m;
      conditions_under = subst (λ (q : Row). below (2 * n) q.conditions ≡ true) (sym (row-proposal r)) c;
      outputs_under = subst (λ (q : Row). below (2 * n) q.outputs ≡ true) (sym (row-proposal r)) o;
    }

-- a row over n atoms is a proposal over as many or more
pub proposed-over : {m : ℕ} (n : ℕ) (r : Row) → n ≤ m → is_row n r ≡ true → ProposedOver m (proposal r)
proposed-over {m} n r l e =
    let p = row-parts m r (row_more n m r l e) in
    proposed-row r p.few p.many p.conditions_under p.outputs_under

module _ {n : ℕ} (ws : List ℕ) (p : ProposedOver n ws) where
  words : Says (row_in ws) ws
  words = subst (Says (row_in ws)) p.form (says (row_in ws))

  pub proposed-long : length ws ≡ slot_words
  proposed-long = sym (ap length p.form) ∙ proposal-long (row_in ws) p.few p.many

  pub proposed-conditions : get_or ws conditions_at 0 ≡ length (row_in ws).conditions
  proposed-conditions = words.conditions

  pub proposed-outputs : get_or ws outputs_at 0 ≡ length (row_in ws).outputs
  proposed-outputs = words.outputs

  pub proposed-laid : Laid ws
  proposed-laid =
      let f = p.few in
      let m = p.many in
      laid-scalar ws proposed-long
      (record {
        few = omega (arith, words.conditions);
        most = omega (arith, words.outputs);
        parts = omega (arith, words.total, words.first);
        words = omega (arith, words.total);
      })
      words.total

  -- the lists, where they stand
  pub conditions-at : take (get_or ws conditions_at 0) (drop body_at ws) ≡ (row_in ws).conditions
  conditions-at = sym (ap (λ (r : Row). r.conditions) (row-scalar ws words.total))

  pub outputs-at : take (get_or ws outputs_at 0) (drop (body_at + get_or ws conditions_at 0) ws) ≡ (row_in ws).outputs
  outputs-at = sym (ap (λ (r : Row). r.outputs) (row-scalar ws words.total))
