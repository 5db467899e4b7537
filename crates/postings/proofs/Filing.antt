-- How a rebuilding ends: the whole filling sorted, then zeros; or zeros alone. Assumes nothing.
use mathlib.Core.Path.{◌≡◌, refl, sym, ap, ap₂, ◌∙◌}
use mathlib.Core.Bool.{Bool, true, false}
use mathlib.Core.List.{List, [], ◌++◌}
use Prim.Native.Nat.{ℕ, ◌+◌, ◌*◌, ◌≤◌}
use native.Mathlib.Omega.{arith}
use lib.ListN.{length, take, drop}
use lib.Seq.{sets, sets-eq, take_at}
use Rattle.lists.specs.Lists.{sort_of, pad}
use Rattle.lists.proofs.Sorts.{length-sort}
use Rattle.lists.proofs.Pads.{length-pad}
use Rattle.meter.specs.declared.Meter.{Meter}
use Rattle.meter.specs.Tick.{Tick, Ticked, Stopped}
use Rattle.meter.specs.Meter.{ticks}
use Rattle.model.specs.Records.{Row, posting_words}
use Rattle.model.specs.Postings.{postings_of, filed}
use Rattle.postings.specs.Steps.{Walk, walked, walk}
use Rattle.postings.specs.Filling.{Filled, put, filled_to, refiled}
use Rattle.postings.specs.Searching.{ready_ticks}
use Rattle.postings.proofs.Walking.{walk-ticks, walk-whole}
use Rattle.postings.proofs.Fills.{put_all}

pub filed-none : (tier : ℕ) (rs : List Row) → filed tier true rs ≡ pad (posting_words * tier) []
unfolding filed
filed-none tier rs = refl

pub filed-all : (tier : ℕ) (rs : List Row) → filed tier false rs ≡ pad (posting_words * tier) (sort_of (postings_of rs))
unfolding filed
filed-all tier rs = refl

-- the buffer is as long as the tier asks
pub filed-length : (tier : ℕ) (stale : Bool) (rs : List Row) → length (postings_of rs) ≤ posting_words * tier
    → length (filed tier stale rs) ≡ posting_words * tier
filed-length tier true rs l = ap length (filed-none tier rs) ∙ length-pad (posting_words * tier) [] (omega arith)
filed-length tier false rs l =
    ap length (filed-all tier rs)
    ∙ length-pad (posting_words * tier) (sort_of (postings_of rs)) (omega (arith, length-sort (postings_of rs)))

-- ---- by how the filling of words b ended
module _ (rs : List Row) (b : List ℕ) (work : Meter) (r : Walk Filled) where
  filling-end : {t : Tick} → r ≡ walk put (postings_of rs) (filled_to 0 b) work → r.end ≡ t → t ≡ ticks (length (postings_of rs)) work
  filling-end q e = sym e ∙ ap (λ (w : Walk Filled). w.end) q ∙ walk-ticks put (postings_of rs) (filled_to 0 b) work

  filling-whole : (m : Meter) → r ≡ walk put (postings_of rs) (filled_to 0 b) work → r.end ≡ Ticked m →
      r.state ≡ filled_to (length (postings_of rs)) (sets b 0 (postings_of rs))
  filling-whole m q e =
      let z : 0 + length (postings_of rs) ≡ length (postings_of rs) = omega arith in
      ap (λ (w : Walk Filled). w.state) q
      ∙ walk-whole put (postings_of rs) (filled_to 0 b) work m (sym (ap (λ (w : Walk Filled). w.end) q) ∙ e)
      ∙ put_all (postings_of rs) 0 b
      ∙ ap (λ (k : ℕ). filled_to k (sets b 0 (postings_of rs))) z

  pub filling-count : (m : Meter) → r ≡ walk put (postings_of rs) (filled_to 0 b) work → r.end ≡ Ticked m
      → r.state.next ≡ length (postings_of rs)
  filling-count m q e = ap (λ (s : Filled). s.next) (filling-whole m q e)

  pub filling-front : (m : Meter) → r ≡ walk put (postings_of rs) (filled_to 0 b) work → r.end ≡ Ticked m
      → length (postings_of rs) ≤ length b →
      take r.state.next r.state.words ≡ postings_of rs
  filling-front m q e l =
      ap₂ (λ (k : ℕ) (w : List ℕ). take k w) (filling-count m q e)
      (ap (λ (s : Filled). s.words) (filling-whole m q e) ∙ sets-eq (postings_of rs) b 0 (omega arith))
      ∙ take_at (postings_of rs) (drop (0 + length (postings_of rs)) b) (length (postings_of rs)) refl

  -- whole: sorted, then zeros
  pub refiled-whole : (m : Meter) (tier : ℕ) (s : List ℕ) → r ≡ walk put (postings_of rs) (filled_to 0 b) work → r.end ≡ Ticked m →
      length (postings_of rs) ≤ length b → length s ≡ posting_words * tier →
      s ≡ sort_of (take r.state.next r.state.words) ++ drop r.state.next r.state.words →
      walked (Ticked m) (filled_to r.state.next (pad (length s) (take r.state.next s)))
      ≡ refiled tier rs (ticks (length (postings_of rs)) work)
  unfolding refiled
  refiled-whole m tier s q e l n g =
      let k = r.state.next in
      let c = filling-count m q e in
      let f : s ≡ sort_of (postings_of rs) ++ drop k r.state.words =
      g ∙ ap (λ (x : List ℕ). sort_of x ++ drop k r.state.words) (filling-front m q e l) in
      let t : take k s ≡ sort_of (postings_of rs) =
      ap (take k) f ∙ take_at (sort_of (postings_of rs)) (drop k r.state.words) k (length-sort (postings_of rs) ∙ sym c) in
      ap₂ (λ (x : ℕ) (w : List ℕ). walked (Ticked m) (filled_to x w)) c (ap₂ pad n t ∙ sym (filed-all tier rs))
      ∙ ap (refiled tier rs) (filling-end q e)

  -- stopped: zeros alone
  pub refiled-stopped : (m : Meter) (tier : ℕ) (s : List ℕ) → r ≡ walk put (postings_of rs) (filled_to 0 b) work → r.end ≡ Stopped m →
      length s ≡ posting_words * tier
      → walked (Stopped m) (filled_to 0 (pad (length s) [])) ≡ refiled tier rs (ticks (length (postings_of rs)) work)
  unfolding refiled
  refiled-stopped m tier s q e n =
      ap (λ (w : List ℕ). walked (Stopped m) (filled_to 0 w)) (ap (λ (x : ℕ). pad x []) n ∙ sym (filed-none tier rs))
      ∙ ap (refiled tier rs) (filling-end q e)

-- ---- postings that are ready: rebuilt if they were stale
pub ready-stale : (stale : Bool) (n : ℕ) (m : Meter) → stale ≡ true → ready_ticks stale n m ≡ ticks n m
unfolding ready_ticks
ready-stale stale n m e = rw (e, ready_ticks)

pub ready-fresh : (tier : ℕ) (stale : Bool) (rs : List Row) (k : ℕ) (ws : List ℕ) (m : Meter) → stale ≡ false
    → k ≡ length (postings_of rs) →
    ws ≡ filed tier stale rs → walked (Ticked m) (filled_to k ws) ≡ refiled tier rs (ready_ticks stale (length (postings_of rs)) m)
unfolding ready_ticks refiled
ready-fresh tier stale rs k ws m e c f =
    ap₂ (λ (n : ℕ) (w : List ℕ). walked (Ticked m) (filled_to n w)) c (f ∙ ap (λ (b : Bool). filed tier b rs) e)
    ∙ ap (λ (b : Bool). refiled tier rs (ready_ticks b (length (postings_of rs)) m)) (sym e)

-- ---- how a rebuilding ended tells what it left
module _ (tier : ℕ) (rs : List Row) (r : Walk Filled) where
  pub record Ready (m : Meter) (t : Tick) : Type 0 where
    pub end : Ticked m ≡ t
    pub count : r.state.next ≡ length (postings_of rs)
    pub words : r.state.words ≡ filed tier false rs

  pub refiled-ready : (m : Meter) (t : Tick) → r ≡ refiled tier rs t → r.end ≡ Ticked m → Ready m t
  unfolding refiled
  refiled-ready m (Ticked k) q e = record {
    end = sym e ∙ ap (λ (w : Walk Filled). w.end) q;
    count = ap (λ (w : Walk Filled). w.state.next) q;
    words = ap (λ (w : Walk Filled). w.state.words) q;
  }
  refiled-ready m (Stopped k) q e = absurd (never (sym e ∙ ap (λ (w : Walk Filled). w.end) q))
    where
      never : Ticked m ≡ Stopped k → ⊥
      never f = let z : ◌≡◌ {A = ℕ} 0 1 = cc in omega arith

  pub refiled-unready : (m : Meter) (t : Tick) → r ≡ refiled tier rs t → r.end ≡ Stopped m
      → (Stopped m ≡ t) × (r.state.words ≡ filed tier true rs)
  unfolding refiled
  refiled-unready m (Stopped k) q e = (sym e ∙ ap (λ (w : Walk Filled). w.end) q, ap (λ (w : Walk Filled). w.state.words) q)
  refiled-unready m (Ticked k) q e = absurd (never (sym e ∙ ap (λ (w : Walk Filled). w.end) q))
    where
      never : Stopped m ≡ Ticked k → ⊥
      never f = let z : ◌≡◌ {A = ℕ} 0 1 = cc in omega arith

-- stopped, a ledger was stale
pub unready-stale : (stale : Bool) (n : ℕ) (m k : Meter) → Stopped k ≡ ready_ticks stale n m → stale ≡ true
unfolding ready_ticks
unready-stale true n m k e = refl
unready-stale false n m k e = absurd (never e)
  where
    never : Stopped k ≡ Ticked m → ⊥
    never f = let z : ◌≡◌ {A = ℕ} 0 1 = cc in omega arith
