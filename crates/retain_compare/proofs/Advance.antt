-- 01, module 5: 'position by position with the growing proposal'. What the loop of the first pass keeps from one position to the next.
-- Assumes nothing.
use mathlib.Core.Path.{◌≡◌, refl, sym, ap, ap₂, ◌∙◌, subst}
use mathlib.Core.Bool.{Bool, true, false, ◌||◌}
use mathlib.Core.List.{List, [], ◌∷◌, ◌++◌}
use Prim.Native.Nat.{ℕ, suc, ◌+◌, ◌*◌, ◌/◌, ◌≤◌, ◌<◌}
use native.Mathlib.Nat.{add-zero}
use native.Mathlib.Numerals.{add-one}
use native.Mathlib.Omega.{arith}
use lib.ListN.{length, get_or, take, drop, drop_of_length-le}
use lib.Seq.{take-suc, drop-cons, take_all, length-take-le}
use Rattle.lists.specs.Lists.{below}
use Rattle.words.specs.Region.{has, max_atoms}
use Rattle.meter.specs.declared.Meter.{Meter}
use Rattle.meter.specs.declared.Account.{Account}
use Rattle.std.specs.Prelude.{Ok, Err, Some}
use Rattle.meter.specs.declared.Purse.{Purse}
use Rattle.meter.specs.declared.Unpaid.{Unpaid}
use Rattle.meter.specs.Read.{Read}
use Rattle.meter.specs.Read as read
use Rattle.meter.specs.Meter.{and_then, pay}
use Rattle.meter.specs.Results.{judged_end}
use Rattle.meter.proofs.Payments.{unpaid-more, answered, unanswered}
use Rattle.meter.proofs.Laws.{pay-add, pay-none}
use Rattle.model.specs.Records.{Row, Entry, max_outputs}
use Rattle.model.specs.Rows.{subsumes}
use Rattle.model.specs.Slots.{row_in}
use Rattle.model.specs.Union.{joins}
use Rattle.model.specs.Retention.{Examined, Pass, found, passed, noted, first_pass, first_reads}
use Rattle.slots.proofs.Storing.{row-proposal}
use Rattle.row_propose.specs.Proposed.{Proposed}
use Rattle.slots.proofs.Holding.{no-entry}
use Rattle.retain_compare.specs.Compared.{Comparison}
use Rattle.retain_compare.specs.Compared as compared
use Rattle.retain_compare.specs.Passes.{examined_by, resumed, row_reads, proposal_after}
use Rattle.retain_compare.specs.Turns.{marked_if, comparison, comparison_end}
use Rattle.retain_compare.proofs.Marking.{marked-length, marked-here, marked_other}
use Rattle.retain_compare.proofs.Passing.{resumed-snoc, resumed-passed, resumed-found, examined-ext, examined-append}
use Rattle.retain_compare.proofs.Passing.{examined-length, first_found, first_on, reads-found, reads_on}
use Rattle.retain_compare.proofs.Joining.{Joins, beside}
use Rattle.retain_compare.proofs.Outcomes.{unpaid-compares}
use Rattle.retain_compare.proofs.Rising.{proposed-after}

-- ---- at the end
end-pass : (most : ℕ) (p : Row) (i : ℕ) (es : List Entry) → length es ≤ i → first_pass most p (drop i es) ≡ passed [] p
unfolding first_pass
end-pass most p i es h = ap (first_pass most p) (drop_of_length-le es h)

end_reads : (most : ℕ) (p : Row) (i : ℕ) (es : List Entry) → length es ≤ i → first_reads most p (drop i es) ≡ 0
unfolding first_reads
end_reads most p i es h = ap (first_reads most p) (drop_of_length-le es h)

-- nothing is passed at the start
none_passed : (f : ℕ → Bool) (x : Pass) → resumed (examined_by f 0 []) x ≡ x
unfolding resumed examined_by
none_passed f x = refl

-- one entry more is passed
one_more : (f g : ℕ → Bool) (i : ℕ) (es : List Entry) (b : Bool) (x : Pass) → i < length es → ((j : ℕ) → j < i → g j ≡ f j) → g i ≡ b
    → resumed (examined_by g 0 (take (i + 1) es)) x ≡ resumed (examined_by f 0 (take i es)) (noted b (get_or es i no-entry) x)
unfolding examined_by
one_more f g i es b x l h e =
    let e₀ : Entry = get_or es i no-entry in
    let n : length (take i es) ≡ i = length-take-le i es (omega arith) in
    let z : 0 + length (take i es) ≡ i = omega arith in
    ap (λ (xs : List Entry). resumed (examined_by g 0 xs) x) (ap (λ (k : ℕ). take k es) (add-one i) ∙ take-suc es i no-entry l)
    ∙ ap (λ (ks : List Examined). resumed ks x) (examined-append g 0 (take i es) (e₀ ∷ []))
    ∙ ap₂ (λ (ks : List Examined) (c : Bool). resumed (ks ++ (record { replaced = c; entry = e₀ } ∷ [])) x)
    (examined-ext g f (take i es) (λ j k. h j (omega arith))) (ap g z ∙ e)
    ∙ resumed-snoc (examined_by f 0 (take i es)) (record { replaced = b; entry = e₀ }) x

module _ (most : ℕ) (p₀ : Row) (es : List Entry) (old : List ℕ) (a₀ : Account) (m₀ : Meter) where
  abbrev whole : Pass
  whole = first_pass most p₀ es

  abbrev cost : Read
  cost = pay (first_reads most p₀ es) a₀ m₀

  -- position i is reached
  pub record Advance (words marks : List ℕ) (a : Account) (m : Meter) (i : ℕ) : Type 0 where
    pub far : i ≤ length es
    pub proposed : Proposed words
    pub same : length marks ≡ length old
    pub ahead : (j : ℕ) → i ≤ j → has marks j ≡ false
    pub pass : resumed (examined_by (has marks) 0 (take i es)) (first_pass most (row_in words) (drop i es)) ≡ whole
    pub reads : pay (first_reads most (row_in words) (drop i es)) a m ≡ cost

  pub advance-start : (words : List ℕ) → row_in words ≡ p₀ → Proposed words → ((j : ℕ) → has old j ≡ false) → Advance words old a₀ m₀ 0
  advance-start words e p h = record {
    far = omega arith;
    proposed = p;
    same = refl;
    ahead = λ j k. h j;
    pass = none_passed (has old) (first_pass most (row_in words) es) ∙ ap (λ (r : Row). first_pass most r es) e;
    reads = ap (λ (r : Row). pay (first_reads most r es) a₀ m₀) e;
  }

  module _ (words marks : List ℕ) (a : Account) (m : Meter) (i : ℕ) (s : Advance words marks a m i) where
    abbrev entry : Entry
    entry = get_or es i no-entry

    abbrev p : Row
    p = row_in words

    abbrev r : Row
    r = entry.row

    abbrev rest : List Entry
    rest = drop (suc i) es

    abbrev done : List Examined
    done = examined_by (has marks) 0 (take i es)

    -- the pass and its reads from this position on
    module _ (l : i < length es) where
      pass-here : resumed done (first_pass most p (entry ∷ rest)) ≡ whole
      pass-here = ap (λ (xs : List Entry). resumed done (first_pass most p xs)) (sym (drop-cons es i no-entry l)) ∙ s.pass

      reads_here : pay (first_reads most p (entry ∷ rest)) a m ≡ cost
      reads_here = ap (λ (xs : List Entry). pay (first_reads most p xs) a m) (sym (drop-cons es i no-entry l)) ∙ s.reads

      -- the row subsumes the proposal
      pub advance-found : (u : Purse) → judged_end (Ok true) u ≡ beside most r p a m
          → comparison_end (Ok (Some i)) u ≡ comparison whole cost
      advance-found u h =
          let b = answered (subsumes r p) true (row_reads most r p) a m u h in
          let f : whole ≡ found i
          = sym pass-here ∙ ap (resumed done) (first_found most p entry rest (sym b.0)) ∙ resumed-found done 0
          ∙ ap found (add-zero (length done) ∙ examined-length (has marks) 0 (take i es) ∙ length-take-le i es (omega arith)) in
          let q : cost ≡ read.Paid u.account u.meter = sym reads_here
          ∙ ap (λ (n : ℕ). pay n a m) (reads-found most p entry rest (sym b.0)) ∙ sym b.1 in
          sym (ap₂ comparison f q)

      -- a read of this position is not paid: the later ones are not asked
      abbrev later : ℕ
      later = elim (subsumes r p) [ true ↦ 0 | false ↦ first_reads most (proposal_after most r p) rest ]

      reads-split : first_reads most p (entry ∷ rest) ≡ row_reads most r p + later
      reads-split = go (subsumes r p) refl
        where
          go : (b : Bool) → subsumes r p ≡ b
              → first_reads most p (entry ∷ rest)
              ≡ row_reads most r p + (elim b as (λ k. ℕ) [ true ↦ 0 | false ↦ first_reads most (proposal_after most r p) rest ])
          go true e = reads-found most p entry rest e ∙ sym (add-zero (row_reads most r p))
          go false e = reads_on most p entry rest e

      pub advance-unpaid : (e : Unpaid) (u : Purse) → judged_end (Err e) u ≡ beside most r p a m
          → comparison_end (Err e) u ≡ comparison whole cost
      advance-unpaid e u h =
          unpaid-compares whole cost e u
          (unpaid-more (row_reads most r p) (row_reads most r p + later) a m e u (omega arith)
          (unanswered (subsumes r p) (row_reads most r p) a m e u h)
          ∙ ap (λ (n : ℕ). pay n a m) (sym reads-split) ∙ reads_here)

      -- the pass goes on
      pub advance-turn : (words' after : List ℕ) (v : Purse) → judged_end (Ok false) v ≡ beside most r p a m
          → Joins most r p marks i words' after
          → most ≤ max_outputs → below (2 * max_atoms) r.outputs ≡ true → i / 64 < length marks
          → Advance words' after v.account v.meter (i + 1)
      advance-turn words' after v h j small u w =
          let b = answered (subsumes r p) false (row_reads most r p) a m v h in
          let q : row_in words' ≡ proposal_after most r p = ap row_in j.0 ∙ row-proposal (proposal_after most r p) in
          record {
            far = omega arith;
            proposed = subst Proposed (sym j.0) (proposed-after most r words small u s.proposed);
            same = ap length j.1 ∙ marked-length (joins most r p) marks i ∙ s.same;
            ahead = λ k n. subst (λ (x : List ℕ). has x k ≡ false) (sym j.1) (open' k n);
            pass = ap₂ (λ (x : Row) (n : ℕ). resumed (examined_by (has after) 0 (take (i + 1) es)) (first_pass most x (drop n es))) q
                (add-one i)
                ∙ one_more (has marks) (has after) i es (joins most r p) (first_pass most (proposal_after most r p) rest) l
                (λ k n. subst (λ (x : List ℕ). has x k ≡ has marks k) (sym j.1) (kept k n))
                (ap (λ (x : List ℕ). has x i) j.1 ∙ here)
                ∙ ap (resumed done) (sym (first_on most p entry rest (sym b.0)))
                ∙ pass-here;
            reads = ap₂ (λ (x : Row) (n : ℕ). pay (first_reads most x (drop n es)) v.account v.meter) q (add-one i)
                ∙ sym (ap (λ (z : Read). and_then z (pay (first_reads most (proposal_after most r p) rest))) (sym b.1))
                ∙ sym (pay-add (row_reads most r p) (first_reads most (proposal_after most r p) rest) a m)
                ∙ ap (λ (n : ℕ). pay n a m) (sym (reads_on most p entry rest (sym b.0)))
                ∙ reads_here;
          }
        where
          kept : (k : ℕ) → k < i → has (marked_if (joins most r p) marks i) k ≡ has marks k
          kept k n = let d : (k ≡ i → ⊥) = λ q. omega arith in marked_other marks i w (joins most r p) k d

          open' : (k : ℕ) → i + 1 ≤ k → has (marked_if (joins most r p) marks i) k ≡ false
          open' k n =
              let d : (k ≡ i → ⊥) = λ q. omega arith in
              let g : i ≤ k = omega arith in
              marked_other marks i w (joins most r p) k d ∙ s.ahead k g

          here : has (marked_if (joins most r p) marks i) i ≡ joins most r p
          here = marked-here marks i w (joins most r p) ∙ ap (λ (x : Bool). x || joins most r p) (s.ahead i (omega arith))

    module _ (l : length es ≤ i) where
      pub advance_end : whole ≡ passed (examined_by (has marks) 0 es) p
      advance_end =
          let t : take i es ≡ es = take_all i es l in
          sym s.pass ∙ ap₂ (λ (xs : List Entry) (x : Pass). resumed (examined_by (has marks) 0 xs) x) t (end-pass most p i es l)
          ∙ resumed-passed (examined_by (has marks) 0 es) p

      pub advance-paid : record { compared = compared.Replaces; account = a; meter = m } ≡ comparison whole cost
      advance-paid =
          let q : cost ≡ read.Paid a m = sym s.reads ∙ ap (λ (n : ℕ). pay n a m) (end_reads most p i es l) ∙ pay-none a m in
          sym (ap₂ comparison advance_end q)
