-- The next output of a row, by the tests that the code makes. Assumes nothing.
use mathlib.Core.Path.{◌≡◌, sym, ap, ap₂, ◌∙◌, subst}
use mathlib.Core.Bool.{true, false}
use mathlib.Core.List.{List, [], ◌∷◌}
use Prim.Native.Nat.{ℕ, suc, ◌+◌, ◌-◌, ◌*◌, ◌^◌, ◌≤◌, ◌<◌}
use native.Mathlib.Nat.{lt_of_le_of_lt}
use native.Mathlib.Numerals.{add-one}
use native.Mathlib.Omega.{arith}
use lib.Bits.{bit_and, bit_or, and_le_l}
use lib.ListN.{get_or}
use borrow.Author.Tests.{le-leb, lt-leb}
use Rattle.words.specs.Literal.{code_bits, codes_wide, words_wide}
use Rattle.words.specs.Region.{Region}
use Rattle.words.proofs.Widths.{code-in-word}
use Rattle.std.specs.Prelude.{Option, Result, Err}
use Rattle.meter.specs.declared.Meter.{Meter}
use Rattle.meter.specs.declared.Stopped as error
use Rattle.meter.specs.Tick.{Ticked, Stopped}
use Rattle.meter.specs.Meter.{tick_of}
use Rattle.model.specs.Records.{group_length}
use Rattle.model.specs.declared.Literal.{Literal}
use Rattle.model.specs.declared.OutputCursor.{OutputCursor}
use Rattle.model.specs.Slots.{codes_of, index_of, bits_of}
use Rattle.model.specs.Deduction.{Published, published, output, stopped, end, failing, pending, loaded, give, given_out, packed_next}
use Rattle.model.proofs.Packing.{OneWord}
use Rattle.slots.specs.declared.Side.{Side}
use Rattle.slots.proofs.Codes.{codes-none}
use Rattle.slots.proofs.Words.{codes-word, codes-index, bits-present, bits-absent}
use Rattle.row_deduce.specs.declared.Group.{Group}
use Rattle.row_deduce.specs.Chunks.{chunk_at, chunks_from, group_at}
use Rattle.row_deduce.specs.Publication.{published_as, loaded_from, single_given, single_next}
use Rattle.row_deduce.proofs.Groups.{unless, publish-codes}
use Rattle.row_deduce.proofs.Turns.{chunk-group, chunks-step, chunks-end}
use Rattle.row_deduce.proofs.Packed.{group-chunk}

-- ---- a function that stops where a tick is not made
pub stops-on : {r : Result (Option Literal) error.Stopped} {e : error.Stopped} (k : OutputCursor) (m : Meter) {w : Published}
    → r ≡ Err e → published stopped k m ≡ w → published_as r k m ≡ w
stops-on k m p q = ap (λ (x : Result (Option Literal) error.Stopped). published_as x k m) p ∙ q

-- ---- the group as it is loaded
pub chunk-index : (ws : List ℕ) (s : Side) (g : ℕ) → s.packed ≡ true → get_or ws (s.base + group_length * g + 1) 0 < 2 ^ 64
    → get_or ws (s.base + group_length * g + 2) 0 < 2 ^ 64
    → 0 < bit_or (get_or ws (s.base + group_length * g + 2) 0) (get_or ws (s.base + group_length * g + 1) 0)
    → index_of (chunk_at ws s g) ≡ get_or ws (s.base + group_length * g) 0
chunk-index ws s g packed hp ha some =
    ap index_of (chunk-group ws s g packed)
    ∙ codes-index (get_or ws (s.base + group_length * g) 0) (get_or ws (s.base + group_length * g + 1) 0)
    (get_or ws (s.base + group_length * g + 2) 0) hp ha some

module _ (r : Region) (ws : List ℕ) (s : Side) (g : ℕ) (k : Group) (packed : s.packed ≡ true) (is : k ≡ group_at ws s g)
    (hp : k.present < 2 ^ 64) (ha : k.absent < 2 ^ 64) (some : 0 < bit_or k.absent k.present)
    (hh : get_or r.held k.index 0 < 2 ^ 64) (hc : get_or r.cut k.index 0 < 2 ^ 64)
    (apart : bit_and (get_or r.held k.index 0) (get_or r.cut k.index 0) ≡ 0) where
  abbrev present : ℕ
  present = unless k.present (get_or r.cut k.index 0) (get_or r.held k.index 0)

  abbrev absent : ℕ
  absent = unless k.absent (get_or r.held k.index 0) (get_or r.cut k.index 0)

  left_is : failing r (chunk_at ws s g) ≡ codes_of k.index present absent
  left_is = ap (failing r) (group-chunk ws s g k is packed) ∙ publish-codes r k.index k.present k.absent hh hc apart

  present-lt : present < 2 ^ 64
  present-lt = lt_of_le_of_lt (and_le_l k.present _) hp

  absent-lt : absent < 2 ^ 64
  absent-lt = lt_of_le_of_lt (and_le_l k.absent _) ha

  index_is : k.index ≡ index_of (chunk_at ws s g)
  index_is = sym (ap index_of (group-chunk ws s g k is packed) ∙ codes-index k.index k.present k.absent hp ha some)

  pub loaded-is : ◌≡◌ {A = OutputCursor} (record { next = g + 1; word = k.index; present = present; absent = absent })
      (loaded_from r (chunk_at ws s g) g)
  loaded-is =
      ap₂ {C = OutputCursor} (λ (n w : ℕ). record { next = n; word = w; present = present; absent = absent }) (add-one g) index_is
      ∙ ap₂ {C = OutputCursor} (λ (p a : ℕ). record { next = suc g; word = index_of (chunk_at ws s g); present = p; absent = a })
      (sym (ap (bits_of true) left_is ∙ bits-present k.index present absent present-lt absent-lt))
      (sym (ap (bits_of false) left_is ∙ bits-absent k.index present absent present-lt absent-lt))

-- ---- an output of the loaded group
module _ (k : OutputCursor) (c present absent : ℕ)
    (first : codes_of k.word k.present k.absent ≡ c ∷ codes_of k.word present absent) where
  pub code_lt : (w : ℕ) → 7 ≤ w → k.word < words_wide w → c < codes_wide w
  code_lt w l h =
      let one : OneWord k.word (c ∷ codes_of k.word present absent) =
      subst (OneWord k.word) first (codes-word k.word k.present k.absent) in
      code-in-word w c k.word l one.0 h

-- ---- a packed row
module _ (r : Region) (k : OutputCursor) (m : Meter) where
  -- nothing is left of the loaded group
  module _ (none : bit_or k.absent k.present ≡ 0) where
    empty : pending k ≡ []
    unfolding pending
    empty = codes-none k.word k.present k.absent none

    pub packed-end : published end k m ≡ packed_next r [] k m
    unfolding packed_next
    packed-end = sym (rw (empty, packed_next))

    pub packed-stopped : (g : List ℕ) (gs : List (List ℕ)) {n : Meter} → Stopped n ≡ tick_of m
        → published stopped k n ≡ packed_next r (g ∷ gs) k m
    unfolding packed_next
    packed-stopped g gs e = sym (rw (empty, sym e, packed_next))

    pub packed-load : (g : List ℕ) (gs : List (List ℕ)) {n : Meter} → Ticked n ≡ tick_of m
        → packed_next r gs (loaded_from r g k.next) n ≡ packed_next r (g ∷ gs) k m
    unfolding packed_next loaded
    packed-load g gs e = sym (rw (empty, sym e, packed_next))

  -- an output is left
  pub packed-given : (gs : List (List ℕ)) (c : ℕ) (cs : List ℕ) → codes_of k.word k.present k.absent ≡ c ∷ cs
      → give c cs k (tick_of m) ≡ packed_next r gs k m
  unfolding packed_next pending
  packed-given [] c cs e = sym (rw (e, packed_next, pending))
  packed-given (g ∷ gs) c cs e = sym (rw (e, packed_next, pending))

-- ---- a scalar row
module _ (ws : List ℕ) (s : Side) (k : OutputCursor) (m : Meter) where
  pub single-end : s.count ≤ k.next → published end k m ≡ single_next ws s k m
  unfolding single_next
  single-end h = sym (rw (le-leb s.count k.next h, single_next))

  module _ (h : k.next < s.count) where
    single-is : single_given (get_or ws (s.base + k.next) 0) k (tick_of m) ≡ single_next ws s k m
    unfolding single_next
    single-is = sym (rw (lt-leb s.count k.next h, single_next))

    pub single-stopped : {n : Meter} → Stopped n ≡ tick_of m → published stopped k n ≡ single_next ws s k m
    single-stopped {n} e = ap (single_given (get_or ws (s.base + k.next) 0) k) e ∙ single-is

    pub single-ticked : {n : Meter} → Ticked n ≡ tick_of m
        → published (output (get_or ws (s.base + k.next) 0)) (record { next = k.next + 1; word = 0; present = 0; absent = 0 }) n
        ≡ single_next ws s k m
    single-ticked {n} e =
        ap (λ (i : ℕ). published (output (get_or ws (s.base + k.next) 0)) (record { next = i; word = 0; present = 0; absent = 0 }) n)
        (add-one k.next)
        ∙ ap (single_given (get_or ws (s.base + k.next) 0) k) e ∙ single-is

-- ---- the walk over the groups that are not loaded yet: from here on it is what it was at the start
pub record Loading (r : Region) (ws : List ℕ) (s : Side) (cursor : OutputCursor) (start : Meter) (k : OutputCursor)
    (m : Meter) : Type 0 where
  pub within : k.next ≤ s.count
  pub small : k.word < words_wide code_bits
  pub same : packed_next r (chunks_from ws s (s.count - k.next) k.next) k m
      ≡ packed_next r (chunks_from ws s (s.count - cursor.next) cursor.next) cursor start

module _ (r : Region) (ws : List ℕ) (s : Side) (cursor : OutputCursor) (start : Meter) (k : OutputCursor) (m : Meter)
    (w : Loading r ws s cursor start k m) where
  abbrev whole : Published
  whole = packed_next r (chunks_from ws s (s.count - cursor.next) cursor.next) cursor start

  abbrev on : List (List ℕ)
  on = chunks_from ws s (s.count - k.next) k.next

  -- an output of the loaded group is left
  pub given-stopped : {n : Meter} (c : ℕ) (cs : List ℕ) → codes_of k.word k.present k.absent ≡ c ∷ cs → Stopped n ≡ tick_of m
      → published stopped k n ≡ packed_next r (chunks_from ws s (s.count - cursor.next) cursor.next) cursor start
  unfolding give
  given-stopped c cs first e = ap (give c cs k) e ∙ packed-given r k m on c cs first ∙ w.same

  pub given-ticked : {n : Meter} (c present absent : ℕ) → present < 2 ^ 64 → absent < 2 ^ 64
      → codes_of k.word k.present k.absent ≡ c ∷ codes_of k.word present absent → Ticked n ≡ tick_of m
      → published (output c) (record { next = k.next; word = k.word; present = present; absent = absent }) n
      ≡ packed_next r (chunks_from ws s (s.count - cursor.next) cursor.next) cursor start
  unfolding give given_out
  given-ticked {n} c present absent hp ha first e =
      ap₂ (λ (p a : ℕ). published (output c) (record { next = k.next; word = k.word; present = p; absent = a }) n)
      (sym (bits-present k.word present absent hp ha)) (sym (bits-absent k.word present absent hp ha))
      ∙ ap (give c (codes_of k.word present absent) k) e
      ∙ packed-given r k m on c (codes_of k.word present absent) first ∙ w.same

  module _ (none : bit_or k.absent k.present ≡ 0) where
    pub load-end : s.count ≤ k.next → published end k m ≡ packed_next r (chunks_from ws s (s.count - cursor.next) cursor.next) cursor start
    load-end h =
        packed-end r k m none
        ∙ ap (λ (gs : List (List ℕ)). packed_next r gs k m) (sym (chunks-end ws s s.count k.next h)) ∙ w.same

    module _ (more : k.next < s.count) where
      abbrev later : List (List ℕ)
      later = chunks_from ws s (s.count - (k.next + 1)) (k.next + 1)

      next-group : packed_next r (chunk_at ws s k.next ∷ chunks_from ws s (s.count - (k.next + 1)) (k.next + 1)) k m ≡ whole
      next-group = ap (λ (gs : List (List ℕ)). packed_next r gs k m) (sym (chunks-step ws s s.count k.next more)) ∙ w.same

      pub load-stopped : {n : Meter} → Stopped n ≡ tick_of m
          → published stopped k n ≡ packed_next r (chunks_from ws s (s.count - cursor.next) cursor.next) cursor start
      load-stopped e = packed-stopped r k m none (chunk_at ws s k.next) later e ∙ next-group

      pub load-on : {n : Meter} (l : OutputCursor) → Ticked n ≡ tick_of m → l ≡ loaded_from r (chunk_at ws s k.next) k.next
          → index_of (chunk_at ws s k.next) < words_wide code_bits → Loading r ws s cursor start l n
      load-on {n} l e f small = subst (λ (x : OutputCursor). Loading r ws s cursor start x n) (sym f) (record {
        within = omega arith;
        small = small;
        same = ap (λ (i : ℕ). packed_next r (chunks_from ws s (s.count - i) i) (loaded_from r (chunk_at ws s k.next) k.next) n)
            (sym (add-one k.next))
            ∙ packed-load r k m none (chunk_at ws s k.next) later e ∙ next-group;
      })
