-- What is laid out is accepted, and accepted words are those of their entries. Assumes nothing.
use mathlib.Core.Path.{◌≡◌, refl, sym, ap, ap₂, ◌∙◌, subst}
use mathlib.Core.Bool.{Bool, true, false, ◌&&◌}
use mathlib.Core.List.{List, [], ◌∷◌, ◌++◌, map}
use mathlib.Core.Option.{none}
use Prim.Native.Nat.{ℕ, suc, ◌*◌, ◌≤◌}
use native.Mathlib.Omega.{arith}
use lib.Dec.{T, leb, ltb, leb→le, eqb}
use lib.ListN.{length, length-append, length-map}
use borrow.Author.Tests.{eq-eqb}
use Rattle.lists.specs.Lists.{all, concat, same, sort_of, distinct}
use Rattle.lists.proofs.Tests.{same_refl, same_true}
use Rattle.lists.proofs.Sorts.{length-sort, distinct-short}
use Rattle.lists.proofs.Bools.{T_true, T_of}
use Rattle.lists.proofs.Pads.{length-pad}
use Rattle.words.specs.Literal.{atom}
use Rattle.model.specs.declared.Header.{Header}
use Rattle.model.specs.Records.{Row, Entry, Ledger, rows_of, is_row, with_counts, founded_rows, slot_words, posting_words}
use Rattle.model.specs.Slots.{slot_of, slots_of, entries_in}
use Rattle.model.specs.Postings.{posting, row_postings, postings_from, postings_of, filed}
use Rattle.model.specs.Refusals.{Lent, refusal, ledger_in, lent_of, lengths_ok, entry_ok, counts_ok, founded_ok, words_ok, contents_ok}
use Rattle.model.specs.Refusals.{accepts}
use Rattle.model.specs.Acceptance.{EncodedAccepted, EntriesAreAll}
use Rattle.model.proofs.Cover.{and_left, and_right}
use Rattle.model.proofs.Slots.{Valid, valid-of, AllValid, slot-length, decode-encode}
use Rattle.model.proofs.Priority.Steps.{Accepted, accepted}

-- ---- lengths
pub entries-valid : (h : Header) (es : List Entry) → T (all (entry_ok h) es) → AllValid es
unfolding all entry_ok
entries-valid h [] t = tt
entries-valid h (e ∷ es) t = (
  valid-of h.limits.atoms e.row (and_left (is_row h.limits.atoms e.row) _ (and_left (entry_ok h e) (all (entry_ok h) es) t)),
  entries-valid h es (and_right (entry_ok h e) (all (entry_ok h) es) t),
)

pub laid-length : (es : List Entry) → AllValid es → length (concat (map slot_of es)) ≡ slot_words * length es
unfolding concat
laid-length [] v = refl
laid-length (e ∷ es) v =
    let a = slot-length e v.0 in
    let b = laid-length es v.1 in
    let c = length-append (slot_of e) (concat (map slot_of es)) in
    omega arith

row-posts : (p : ℕ) (r : Row) → Valid r → length (row_postings p r) ≤ posting_words
unfolding row_postings
row-posts p r v =
    let a = length-map (map atom r.conditions ++ distinct (map atom r.outputs)) (posting p) in
    let b = length-append (map atom r.conditions) (distinct (map atom r.outputs)) in
    let c = length-map r.conditions atom in
    let d = distinct-short (map atom r.outputs) in
    let e = length-map r.outputs atom in
    let f = v.few in
    let g = v.many in
    omega arith

posts-length : (p : ℕ) (es : List Entry) → AllValid es → length (postings_from p (map (λ e. e.row) es)) ≤ posting_words * length es
unfolding postings_from
posts-length p [] v = omega arith
posts-length p (e ∷ es) v =
    let a = row-posts p e.row v.0 in
    let b = posts-length (suc p) es v.1 in
    let c = length-append (row_postings p e.row) (postings_from (suc p) (map (λ e. e.row) es)) in
    omega arith

filed-length : (tier : ℕ) (stale : Bool) (es : List Entry) → AllValid es → length es ≤ tier
    → length (filed tier stale (map (λ e. e.row) es)) ≡ posting_words * tier
unfolding filed postings_of
filed-length tier true es v h = length-pad (posting_words * tier) [] (omega arith)
filed-length tier false es v h =
    length-pad (posting_words * tier) (sort_of (postings_from 0 (map (λ e. e.row) es)))
    (let a = length-sort (postings_from 0 (map (λ e. e.row) es)) in let b = posts-length 0 es v in omega arith)

pub slots_length : (tier : ℕ) (es : List Entry) → AllValid es → length es ≤ tier → length (slots_of tier es) ≡ slot_words * tier
unfolding slots_of
slots_length tier es v h = length-pad (slot_words * tier) (concat (map slot_of es)) (let a = laid-length es v in omega arith)

-- ---- acceptance
all_pass : (a b c : Bool) → T a → T b → T c → refusal ((a, 1) ∷ (b, 2) ∷ (c, 3) ∷ []) ≡ none
unfolding refusal
all_pass true true true x y z = refl
all_pass true true false x y z = absurd z
all_pass true false c x y z = absurd y
all_pass false b c x y z = absurd x

both : (a b : Bool) → a ≡ true → b ≡ true → T (a && b)
both a b e f = T_of {x = a && b} (ap₂ (λ (x y : Bool). x && y) e f)

rows_in_lem : (h : Header) → T (counts_ok h) → h.rows ≤ h.limits.tier_rows
unfolding counts_ok
rows_in_lem h t =
    leb→le h.rows h.limits.tier_rows
    (and_left (leb h.rows h.limits.tier_rows)
    (ltb h.epoch h.limits.tier_rows && leb h.attempts h.limits.founded_attempts) t)

pub encoded-accepted : EncodedAccepted
unfolding accepts lengths_ok contents_ok founded_ok words_ok lent_of ledger_in with_counts rows_of
encoded-accepted l a c e =
    let h : Header = (lent_of l).header in
    let es = l.entries in
    let tier = l.header.limits.tier_rows in
    let v = entries-valid h es e in
    let few : length es ≤ tier = rows_in_lem h c in
    let back : entries_in (length es) (slots_of tier es) ≡ es = decode-encode tier es v in
    let ws : List ℕ = slots_of tier es in
    let ps : List ℕ = filed tier l.header.stale (map (λ e. e.row) es) in
    let long : T (eqb (length ws) (slot_words * tier) && eqb (length ps) (posting_words * tier))
    = both (eqb (length ws) (slot_words * tier)) (eqb (length ps) (posting_words * tier)) (eq-eqb _ _ (slots_length tier es v few))
    (eq-eqb _ _ (filed-length tier l.header.stale es v few)) in
    let words : T (same ws ws && same ps ps) = both (same ws ws) (same ps ps) (same_refl ws) (same_refl ps) in
    let fit : T (all (entry_ok h) es && (same ws ws && same ps ps)) =
    both (all (entry_ok h) es) (same ws ws && same ps ps) (T_true (all (entry_ok h) es) e) (T_true (same ws ws && same ps ps) words) in
    all_pass _ _ _ a
    (both (eqb (length ws) (slot_words * tier) && eqb (length ps) (posting_words * tier)) true
    (T_true (eqb (length ws) (slot_words * tier) && eqb (length ps) (posting_words * tier)) long) refl)
    (subst
    (λ (xs : List Entry). T
    (counts_ok h && (eqb (founded_rows es) (founded_rows xs)
    && (all (entry_ok h) xs && (same ws (slots_of tier xs) && same ps (filed tier l.header.stale (map (λ e. e.row) xs)))))))
    (sym back)
    (both (counts_ok h) (eqb (founded_rows es) (founded_rows es) && (all (entry_ok h) es && (same ws ws && same ps ps))) (T_true (counts_ok h) c)
    (T_true _ (both (eqb (founded_rows es) (founded_rows es)) (all (entry_ok h) es && (same ws ws && same ps ps))
    (eq-eqb (founded_rows es) (founded_rows es) refl)
    (T_true (all (entry_ok h) es && (same ws ws && same ps ps)) fit)))))

-- ---- accepted words
words_are : (s : Lent) → Accepted s → (s.slots ≡ (lent_of (ledger_in s)).slots) × (s.postings ≡ (lent_of (ledger_in s)).postings)
unfolding contents_ok words_ok
words_are s a =
    let c = and_right (founded_ok s.header (ledger_in s)) _ (and_right (counts_ok s.header) _ a.contents) in
    let w = and_right (all (entry_ok s.header) (ledger_in s).entries) _ c in (
      same_true _ _ (T_true _ (and_left (same s.slots (lent_of (ledger_in s)).slots) _ w)),
      same_true _ _ (T_true _ (and_right (same s.slots (lent_of (ledger_in s)).slots) _ w)),
    )

pub entries-are-all : EntriesAreAll
unfolding ledger_in
entries-are-all s t a b h e =
    let x = words_are s (accepted s true [] a).0 in
    let y = words_are t (accepted t true [] b).0 in
    let q : ledger_in s ≡ ledger_in t = ap₂ {C = Ledger} (λ (k : Header) (es : List Entry). record { header = k; entries = es }) h e in
    (x.0 ∙ ap (λ (l : Ledger). (lent_of l).slots) q ∙ sym y.0, x.1 ∙ ap (λ (l : Ledger). (lent_of l).postings) q ∙ sym y.1)
