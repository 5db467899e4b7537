-- Parts of the slots of a tier: one slot read, written, or changed in a word. Assumes nothing.
use mathlib.Core.Path.{◌≡◌, refl, sym, ap, ap₂, ◌∙◌, subst}
use mathlib.Core.Bool.{Bool, true, ◌&&◌}
use mathlib.Core.List.{List, [], ◌∷◌, ◌++◌, map}
use Prim.Native.Nat.{ℕ, zero, suc, ◌+◌, ◌-◌, ◌*◌, ◌≤◌, ◌<◌}
use native.Mathlib.Omega.{arith}
use lib.ListN.{length, get_or, set, length-set, take, drop, replicate, length-take, length-drop, take-append-drop}
use lib.Seq.{drop-drop, set-append_left, get_or-drop, get_or-take}
use Rattle.std.proofs.lemmas.List.{take-set-le, drop-set-add}
use Rattle.lists.specs.Lists.{all, concat, pad, adjust}
use Rattle.lists.proofs.Selects.{adjust-set, length-adjust}
use Rattle.lists.proofs.Concats.{block-put}
use Rattle.model.specs.Records.{Row, Entry, slot_words, saturating_add, hit_entry, with_hits, with_delivered, hits_at, unshared_at, born_at}
use Rattle.model.specs.Records.{delivered_at, source_at, source_word}
use Rattle.model.specs.Slots.{slot_of, slots_of, entries_in, flag}
use Rattle.model.proofs.Slots.{Valid, AllValid, entries-length, source-there}
use Rattle.model.proofs.Accepting.{laid-length, slots_length}
use Rattle.slots.specs.Layout.{tier_of, Held}
use Rattle.slots.proofs.Holding.{no-entry, valid-at, valid-blocks, slot-at, holding}
use Rattle.tier.specs.Tier.{word_at, hit_words, hits_added, marked_delivered, shared_out}

-- ---- the slots one after another
abbrev pub laid : List Entry → List ℕ
laid es = concat (map slot_of es)

pub laid_nil : laid [] ≡ []
unfolding concat
laid_nil = refl

pub laid_cons : (e : Entry) (es : List Entry) → laid (e ∷ es) ≡ slot_of e ++ laid es
unfolding concat
laid_cons e es = refl

pub valid-take : (n : ℕ) (es : List Entry) → AllValid es → AllValid (take n es)
valid-take zero es v = tt
valid-take (suc n) [] v = tt
valid-take (suc n) (e ∷ es) v = (v.0, valid-take n es v.1)

pub valid-drop : (n : ℕ) (es : List Entry) → AllValid es → AllValid (drop n es)
valid-drop zero es v = v
valid-drop (suc n) [] v = tt
valid-drop (suc n) (e ∷ es) v = valid-drop n es v.1

pub valid-set : (p : ℕ) (es : List Entry) (e : Entry) → AllValid es → Valid e.row → AllValid (set es p e)
valid-set p [] e v w = tt
valid-set zero (x ∷ es) e v w = (w, v.1)
valid-set (suc p) (x ∷ es) e v w = (v.0, valid-set p es e v.1 w)

-- a slot written anew
pub put-slot : (tier p : ℕ) (es : List Entry) (e : Entry) → AllValid es → Valid e.row → p < length es
    → take (slot_words * p) (slots_of tier es) ++ (slot_of e ++ drop (slot_words * p + slot_words) (slots_of tier es))
    ≡ slots_of tier (set es p e)
unfolding slots_of pad
put-slot tier p es e v w h =
    let zs : List ℕ = replicate (slot_words * tier - length (laid es)) 0 in
    let same : length (laid es) ≡ length (laid (set es p e)) =
    laid-length es v ∙ ap (λ (n : ℕ). slot_words * n) (sym (length-set es p e)) ∙ sym (laid-length (set es p e) (valid-set p es e v w)) in
    ap (λ (l : List ℕ). take (slot_words * p) (laid es ++ zs) ++ (slot_of e ++ l))
    (sym (drop-drop slot_words (slot_words * p) (laid es ++ zs)))
    ∙ block-put slot_of slot_words es p e zs (valid-blocks es v) h
    ∙ ap (λ (n : ℕ). laid (set es p e) ++ replicate (slot_words * tier - n) 0) same

-- a word of a slot changed
pub set-part : (ws : List ℕ) (a k v : ℕ) → k < slot_words → a + slot_words ≤ length ws
    → set ws (a + k) v ≡ take a ws ++ (set (take slot_words (drop a ws)) k v ++ drop (a + slot_words) ws)
set-part ws a k v h f =
    let slot : List ℕ = take slot_words (drop a ws) in
    sym (take-append-drop a (set ws (a + k) v))
    ∙ ap₂ (λ (x y : List ℕ). x ++ y) (take-set-le a ws (a + k) v (omega arith)) (drop-set-add a ws k v
    ∙ ap (λ (l : List ℕ). set l k v) (sym (take-append-drop slot_words (drop a ws)))
    ∙ set-append_left slot (drop slot_words (drop a ws)) k v
    (let m = length-take slot_words (drop a ws) in let n = length-drop a ws in omega arith)
    ∙ ap (λ (l : List ℕ). set slot k v ++ l) (drop-drop slot_words a ws))

-- one word of a slot
pub word_of : (tier p k : ℕ) (es : List Entry) (d : Entry) → AllValid es → p < length es → k < slot_words
    → get_or (slots_of tier es) (slot_words * p + k) 0 ≡ get_or (slot_of (get_or es p d)) k 0
word_of tier p k es d v h l =
    sym (get_or-drop (slot_words * p) (slots_of tier es) k 0)
    ∙ sym (get_or-take slot_words (drop (slot_words * p) (slots_of tier es)) k 0 l)
    ∙ ap (λ (w : List ℕ). get_or w k 0) (slot-at tier p es d v h)

pub set_word : (tier p k v : ℕ) (es : List Entry) (d e : Entry) → AllValid es → Valid e.row → p < length es → length es ≤ tier
    → k < slot_words
    → set (slot_of (get_or es p d)) k v ≡ slot_of e → set (slots_of tier es) (slot_words * p + k) v ≡ slots_of tier (set es p e)
set_word tier p k v es d e val w h f l q =
    let n = slots_length tier es val f in
    set-part (slots_of tier es) (slot_words * p) k v l (omega arith)
    ∙ ap (λ (x : List ℕ). take (slot_words * p) (slots_of tier es) ++ (x ++ drop (slot_words * p + slot_words) (slots_of tier es)))
    (ap (λ (x : List ℕ). set x k v) (slot-at tier p es d val h) ∙ q)
    ∙ put-slot tier p es e val w h

-- ---- the words after a change of one entry
adjust-adjust : (f g : Entry → Entry) (p : ℕ) (es : List Entry) → adjust g p (adjust f p es) ≡ adjust (λ e. g (f e)) p es
unfolding adjust
adjust-adjust f g p [] = refl
adjust-adjust f g zero (e ∷ es) = refl
adjust-adjust f g (suc p) (e ∷ es) = ap (λ (l : List Entry). e ∷ l) (adjust-adjust f g p es)

pub valid-adjust : (f : Entry → Entry) (p : ℕ) (es : List Entry) → ((e : Entry) → (f e).row ≡ e.row) → AllValid es
    → AllValid (adjust f p es)
unfolding adjust
valid-adjust f p [] s v = tt
valid-adjust f zero (e ∷ es) s v = (subst (λ (r : Row). Valid r) (sym (s e)) v.0, v.1)
valid-adjust f (suc p) (e ∷ es) s v = (v.0, valid-adjust f p es s v.1)

-- a test that f does not change
pub all-adjust : (g : Entry → Bool) (f : Entry → Entry) (p : ℕ) (es : List Entry) → ((e : Entry) → g (f e) ≡ g e)
    → all g (adjust f p es) ≡ all g es
unfolding all adjust
all-adjust g f p [] h = refl
all-adjust g f zero (e ∷ es) h = ap (λ (b : Bool). b && all g es) (h e)
all-adjust g f (suc p) (e ∷ es) h = ap (λ (b : Bool). g e && b) (all-adjust g f p es h)

-- f changes word k of a slot to x, and no row
pub change : (tier p k x : ℕ) (es : List Entry) (d : Entry) (f : Entry → Entry) → AllValid es → p < length es → length es ≤ tier
    → k < slot_words
    → ((e : Entry) → (f e).row ≡ e.row) → set (slot_of (get_or es p d)) k x ≡ slot_of (f (get_or es p d))
    → set (slots_of tier es) (slot_words * p + k) x ≡ slots_of tier (adjust f p es)
change tier p k x es d f v h r l s q =
    set_word tier p k x es d (f (get_or es p d)) v (subst (λ (y : Row). Valid y) (sym (s (get_or es p d))) (valid-at p es d v h)) h r l q
    ∙ ap (slots_of tier) (sym (adjust-set f p es d h))

with_unshared : ℕ → Entry → Entry
with_unshared n e = record
    { row = e.row; hits = e.hits; unshared = n; born = e.born; delivered = e.delivered; source = e.source }

as_delivered : Entry → Entry
as_delivered e = record { row = e.row; hits = e.hits; unshared = e.unshared; born = e.born; delivered = true; source = e.source }

module _ (tier p : ℕ) (es : List Entry) (v : AllValid es) (h : p < length es) (r : length es ≤ tier) where
  pub word-hits : get_or (slots_of tier es) (slot_words * p + hits_at) 0 ≡ (get_or es p no-entry).hits
  unfolding slot_of pad
  word-hits = word_of tier p hits_at es no-entry v h (omega arith)

  word-unshared : get_or (slots_of tier es) (slot_words * p + unshared_at) 0 ≡ (get_or es p no-entry).unshared
  unfolding slot_of pad
  word-unshared = word_of tier p unshared_at es no-entry v h (omega arith)

  word-born : get_or (slots_of tier es) (slot_words * p + born_at) 0 ≡ (get_or es p no-entry).born
  unfolding slot_of pad
  word-born = word_of tier p born_at es no-entry v h (omega arith)

  word_source : get_or (slots_of tier es) (slot_words * p + source_at) 0 ≡ source_word (get_or es p no-entry).source
  word_source = word_of tier p source_at es no-entry v h (omega arith) ∙ source-there (get_or es p no-entry) (valid-at p es no-entry v h)

  pub hits-set : (n : ℕ) → set (slots_of tier es) (slot_words * p + hits_at) n ≡ slots_of tier (adjust (λ e. with_hits e n) p es)
  unfolding slot_of pad with_hits
  hits-set n = change tier p hits_at n es no-entry (λ e. with_hits e n) v h r (omega arith) (λ e. refl) refl

  unshared-set : (n : ℕ) → set (slots_of tier es) (slot_words * p + unshared_at) n ≡ slots_of tier (adjust (with_unshared n) p es)
  unfolding slot_of pad with_unshared
  unshared-set n = change tier p unshared_at n es no-entry (with_unshared n) v h r (omega arith) (λ e. refl) refl

  delivered-set : set (slots_of tier es) (slot_words * p + delivered_at) 1 ≡ slots_of tier (adjust as_delivered p es)
  unfolding slot_of pad as_delivered flag
  delivered-set = change tier p delivered_at 1 es no-entry as_delivered v h r (omega arith) (λ e. refl) refl

-- an adjustment by the entry's own numbers
adjust-own : (f : ℕ → Entry → Entry) (g : Entry → ℕ) (p : ℕ) (es : List Entry) (d : Entry) → p < length es
    → adjust (f (g (get_or es p d))) p es ≡ adjust (λ e. f (g e) e) p es
unfolding adjust
adjust-own f g p [] d h = absurd (omega arith)
adjust-own f g zero (e ∷ es) d h = refl
adjust-own f g (suc p) (e ∷ es) d h = ap (λ (l : List Entry). e ∷ l) (adjust-own f g p es d (omega arith))

-- a hit changes two words
pub hit-length : (p : ℕ) (ws : List ℕ) → length (hit_words p ws) ≡ length ws
unfolding hit_words
hit-length p ws = length-set (set ws (word_at p hits_at) _) (word_at p unshared_at) _ ∙ length-set ws (word_at p hits_at) _

module _ {atoms : ℕ} (rows p : ℕ) (ws : List ℕ) (k : Held atoms rows ws) (l : p < rows) where
  abbrev held : List Entry
  held = entries_in rows ws

  at : p < length (entries_in rows ws)
  at = subst (λ (n : ℕ). p < n) (sym (entries-length rows ws)) l

  pub hits_at_lem : get_or ws (word_at p hits_at) 0 ≡ (get_or (entries_in rows ws) p no-entry).hits
  hits_at_lem =
      let f = holding rows ws k in
      ap (λ (w : List ℕ). get_or w (slot_words * p + hits_at) 0) (sym k.same) ∙ word-hits (tier_of ws) p held f.valid at f.room

  pub unshared-at : get_or ws (word_at p unshared_at) 0 ≡ (get_or (entries_in rows ws) p no-entry).unshared
  unshared-at =
      let f = holding rows ws k in
      ap (λ (w : List ℕ). get_or w (slot_words * p + unshared_at) 0) (sym k.same) ∙ word-unshared (tier_of ws) p held f.valid at f.room

  pub born-at : get_or ws (word_at p born_at) 0 ≡ (get_or (entries_in rows ws) p no-entry).born
  born-at =
      let f = holding rows ws k in
      ap (λ (w : List ℕ). get_or w (slot_words * p + born_at) 0) (sym k.same) ∙ word-born (tier_of ws) p held f.valid at f.room

  pub source-at : get_or ws (word_at p source_at) 0 ≡ source_word (get_or (entries_in rows ws) p no-entry).source
  source-at =
      let f = holding rows ws k in
      ap (λ (w : List ℕ). get_or w (slot_words * p + source_at) 0) (sym k.same) ∙ word_source (tier_of ws) p held f.valid at f.room

  pub hit-held : hit_words p ws ≡ slots_of (tier_of ws) (adjust hit_entry p (entries_in rows ws))
  unfolding hit_words hit_entry with_hits with_unshared
  hit-held =
      let f = holding rows ws k in
      let x : ℕ = saturating_add (get_or held p no-entry).hits 1 in
      let y : ℕ = saturating_add (get_or held p no-entry).unshared 1 in
      let es = adjust (λ e. with_hits e x) p held in
      let n : length es ≡ length held = length-adjust (λ e. with_hits e x) p held in
      ap₂ (λ (a b : ℕ). set (set ws (slot_words * p + hits_at) (saturating_add a 1)) (slot_words * p + unshared_at) (saturating_add b 1))
      hits_at_lem unshared-at
      ∙ ap (λ (w : List ℕ). set (set w (slot_words * p + hits_at) x) (slot_words * p + unshared_at) y) (sym k.same)
      ∙ ap (λ (w : List ℕ). set w (slot_words * p + unshared_at) y) (hits-set (tier_of ws) p held f.valid at f.room x)
      ∙ unshared-set (tier_of ws) p es (valid-adjust (λ e. with_hits e x) p held (λ e. refl) f.valid) (subst (λ (m : ℕ). p < m) (sym n) at)
      (subst (λ (m : ℕ). m ≤ tier_of ws) (sym n) f.room) y
      ∙ ap (slots_of (tier_of ws)) (adjust-adjust (λ e. with_hits e x) (with_unshared y) p held
      ∙ adjust-own (λ a e. with_unshared y (with_hits e (saturating_add a 1))) (λ e. e.hits) p held no-entry at
      ∙ adjust-own (λ b e. with_unshared (saturating_add b 1) (with_hits e (saturating_add e.hits 1))) (λ e. e.unshared) p held no-entry at)

  pub hits-added : (n : ℕ)
      → hits_added p n ws ≡ slots_of (tier_of ws) (adjust (λ e. with_hits e (saturating_add e.hits n)) p (entries_in rows ws))
  unfolding hits_added
  hits-added n =
      let f = holding rows ws k in
      ap₂ (λ (w : List ℕ) (x : ℕ). set w (slot_words * p + hits_at) (saturating_add x n)) (sym k.same) hits_at_lem
      ∙ hits-set (tier_of ws) p held f.valid at f.room (saturating_add (get_or held p no-entry).hits n)
      ∙ ap (slots_of (tier_of ws)) (adjust-own (λ x e. with_hits e (saturating_add x n)) (λ e. e.hits) p held no-entry at)

  pub marked-delivered : marked_delivered p ws ≡ slots_of (tier_of ws) (adjust (λ e. with_delivered e.unshared e) p (entries_in rows ws))
  unfolding marked_delivered with_delivered as_delivered
  marked-delivered =
      let f = holding rows ws k in
      ap (λ (w : List ℕ). set w (slot_words * p + delivered_at) 1) (sym k.same) ∙ delivered-set (tier_of ws) p held f.valid at f.room

  pub shared-out : shared_out p ws ≡ slots_of (tier_of ws) (adjust (with_delivered 0) p (entries_in rows ws))
  unfolding shared_out with_delivered as_delivered with_unshared
  shared-out =
      let f = holding rows ws k in
      let es = adjust (with_unshared 0) p held in
      let n : length es ≡ length held = length-adjust (with_unshared 0) p held in
      ap (λ (w : List ℕ). set (set w (slot_words * p + unshared_at) 0) (slot_words * p + delivered_at) 1) (sym k.same)
      ∙ ap (λ (w : List ℕ). set w (slot_words * p + delivered_at) 1) (unshared-set (tier_of ws) p held f.valid at f.room 0)
      ∙ delivered-set (tier_of ws) p es (valid-adjust (with_unshared 0) p held (λ e. refl) f.valid) (subst (λ (m : ℕ). p < m) (sym n) at)
      (subst (λ (m : ℕ). m ≤ tier_of ws) (sym n) f.room)
      ∙ ap (slots_of (tier_of ws)) (adjust-adjust (with_unshared 0) as_delivered p held)
