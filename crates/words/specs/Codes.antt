-- Lists of codes without their low bits: by 1 bit their atoms, by 7 their words. Assumes nothing.
use Rattle.std.specs.Prelude.{Bool, ◌&&◌, List, map, ℕ, ◌*◌, ◌/◌, ◌^◌, length}
use Rattle.lists.specs.Lists.{ascending, below, distinct}

-- what is left of the codes without so many low bits
unfoldable pub shifted : ℕ → List ℕ → List ℕ
shifted bits cs = map (λ c. c / 2 ^ bits) cs

-- the runs of equal neighbours in what is left
abbrev pub runs : ℕ → List ℕ → ℕ
runs bits cs = length (distinct (shifted bits cs))

-- all atoms below n, and what is left ascends strictly: by 1 bit the atoms, by none the codes
unfoldable pub climbs : ℕ → ℕ → List ℕ → Bool
climbs n bits cs = below (2 * n) cs && ascending (shifted bits cs)
