-- The rows read in a round, in turn. Assumes nothing.
use mathlib.Core.Path.{◌≡◌, refl, sym, ap, ◌∙◌, subst}
use mathlib.Core.List.{List}
use Prim.Native.Nat.{ℕ, ◌+◌, ◌≤◌, ◌<◌}
use native.Mathlib.Numerals.{add-one}
use native.Mathlib.Omega.{arith}
use lib.ListN.{length, get_or, drop, drop_of_length-le}
use lib.Seq.{drop-cons}
use Rattle.meter.specs.declared.Meter.{Meter}
use Rattle.model.specs.declared.Header.{Header}
use Rattle.model.specs.Contradicted.{Contradicted}
use Rattle.model.specs.Records.{Row}
use Rattle.model.specs.Closing.{State, Turn, going, on_going, act, round}
use Rattle.slots.specs.Layout.{rows_in, Held}
use Rattle.close_publish.specs.declared.Halt.{Halt}
use Rattle.close_publish.specs.Turns.{ledger_of, beside, state, halted_as}
use Rattle.close_publish.specs.Standing.{Standing}
use Rattle.close_publish.proofs.Ending.{halted-stays}

round-none : (n : ℕ) (ps : List ℕ) (i : ℕ) (s : State) → length ps ≤ i → going s ≡ round n (drop i ps) s
unfolding round
round-none n ps i s l = sym (ap (λ (xs : List ℕ). round n xs s) (drop_of_length-le ps l))

round-next : (n : ℕ) (ps : List ℕ) (i : ℕ) (s : State) → i < length ps
    → on_going (act n (get_or ps i 0) s) (round n (drop (i + 1) ps)) ≡ round n (drop i ps) s
unfolding round
round-next n ps i s l =
    ap (λ (j : ℕ). on_going (act n (get_or ps i 0) s) (round n (drop j ps))) (add-one i)
    ∙ sym (ap (λ (xs : List ℕ). round n xs s) (drop-cons ps i 0 l))

-- ---- standing words, seen from an earlier place
pub stands_here : (n rows : ℕ) (rs : List Row) (slots held cut : List ℕ) → Standing n rows rs slots held cut
    → Standing n rows (rows_in rows slots) slots held cut
stands_here n rows rs slots held cut s = record { holds = s.holds; same = refl; region = s.region }

pub stands_from : (n rows : ℕ) (rs qs : List Row) (slots held cut : List ℕ) → rs ≡ qs → Standing n rows rs slots held cut
    → Standing n rows qs slots held cut
stands_from n rows rs qs slots held cut e s =
    record { holds = s.holds; same = s.same ∙ e; region = s.region }

-- ---- a row read by a closing, over the atoms that it began with
module _ {k n : ℕ} (e : k ≡ n) where
  pub held-over : (rows : ℕ) (slots : List ℕ) → Held n rows slots → Held k rows slots
  held-over rows slots h = subst (λ (i : ℕ). Held i rows slots) (sym e) h

  pub stands-over : (rows : ℕ) (rs : List Row) (slots held cut : List ℕ) → Standing k rows rs slots held cut
      → Standing n rows rs slots held cut
  stands-over rows rs slots held cut s = subst (λ (i : ℕ). Standing i rows rs slots held cut) e s

  pub act-over : (u : Turn) (p : ℕ) (s : State) → u ≡ act k p s → u ≡ act n p s
  act-over u p s t = t ∙ ap (λ (i : ℕ). act i p s) e

-- ---- the walk
pub record Reading (n rows : ℕ) (ps slots₀ held₀ cut₀ : List ℕ) (m₀ : Meter) (o₀ : Contradicted) (slots held cut : List ℕ) (m : Meter)
    (o : Contradicted) (i : ℕ) : Type 0 where
  pub within : i ≤ length ps
  pub slots_long : length slots ≡ length slots₀
  pub stands : Standing n rows (rows_in rows slots₀) slots held cut
  pub rest : (h : Header)
      → round n (drop i ps) (state (beside (ledger_of h rows slots) o) held cut m)
      ≡ round n ps (state (beside (ledger_of h rows slots₀) o₀) held₀ cut₀ m₀)

module _ (n rows : ℕ) (ps slots₀ held₀ cut₀ : List ℕ) (m₀ : Meter) (o₀ : Contradicted) where
  pub read-start : Standing n rows (rows_in rows slots₀) slots₀ held₀ cut₀
      → Reading n rows ps slots₀ held₀ cut₀ m₀ o₀ slots₀ held₀ cut₀ m₀ o₀ 0
  read-start s = record { within = omega arith; slots_long = refl; stands = s; rest = λ h. refl }

  module _ (slots held cut : List ℕ) (m : Meter) (o : Contradicted) (i : ℕ)
      (w : Reading n rows ps slots₀ held₀ cut₀ m₀ o₀ slots held cut m o i) where
    abbrev wholly : Header → Turn
    wholly h = round n ps (state (beside (ledger_of h rows slots₀) o₀) held₀ cut₀ m₀)

    pub read_done : length ps ≤ i → (h : Header) → going (state (beside (ledger_of h rows slots) o) held cut m) ≡ wholly h
    read_done l h = round-none n ps i (state (beside (ledger_of h rows slots) o) held cut m) l ∙ w.rest h

    pub read_here : Standing n rows (rows_in rows slots) slots held cut
    read_here = stands_here n rows (rows_in rows slots₀) slots held cut w.stands

    pub read-stands : (slots' held' cut' : List ℕ) → Standing n rows (rows_in rows slots) slots' held' cut'
        → Standing n rows (rows_in rows slots₀) slots' held' cut'
    read-stands slots' held' cut' s = stands_from n rows (rows_in rows slots) (rows_in rows slots₀) slots' held' cut' w.stands.same s

    module _ (l : i < length ps) where
      -- one row more, by how its reading ended
      turn : (u : Turn) (h : Header) → u ≡ act n (get_or ps i 0) (state (beside (ledger_of h rows slots) o) held cut m)
          → on_going u (round n (drop (i + 1) ps)) ≡ wholly h
      turn u h t =
          ap (λ (x : Turn). on_going x (round n (drop (i + 1) ps))) t
          ∙ round-next n ps i (state (beside (ledger_of h rows slots) o) held cut m) l
          ∙ w.rest h

      pub read-ended : (e : Halt) (s : State) (h : Header)
          → halted_as e s ≡ act n (get_or ps i 0) (state (beside (ledger_of h rows slots) o) held cut m)
          → halted_as e s ≡ round n ps (state (beside (ledger_of h rows slots₀) o₀) held₀ cut₀ m₀)
      read-ended e s h t = halted-stays e s (round n (drop (i + 1) ps)) ∙ turn (halted_as e s) h t

      pub read-on : (slots' held' cut' : List ℕ) (m' : Meter) (o' : Contradicted)
          → ((h : Header) → going (state (beside (ledger_of h rows slots') o') held' cut' m')
          ≡ act n (get_or ps i 0) (state (beside (ledger_of h rows slots) o) held cut m))
          → Standing n rows (rows_in rows slots) slots' held' cut'
          → length slots' ≡ length slots
          → Reading n rows ps slots₀ held₀ cut₀ m₀ o₀ slots' held' cut' m' o' (i + 1)
      unfolding on_going
      read-on slots' held' cut' m' o' t s x = record {
        within = omega arith;
        slots_long = x ∙ w.slots_long;
        stands = read-stands slots' held' cut' s;
        rest = λ h. turn (going (state (beside (ledger_of h rows slots') o') held' cut' m')) h (t h);
      }
