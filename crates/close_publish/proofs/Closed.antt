-- A closing that goes on from another. Assumes nothing.
use mathlib.Core.Path.{refl, sym, ◌∙◌, subst}
use Prim.Native.Nat.{ℕ}
use lib.Dec.{T}
use Rattle.words.specs.Region.{is_region}
use Rattle.close_note.specs.Noting.{Room, Logs}
use Rattle.close_note.proofs.Logging.{Logging, logging-room, logs-none, logs-both}
use Rattle.close_publish.specs.declared.Closing.{Closing}
use Rattle.close_publish.specs.Turns.{Counted}
use Rattle.close_publish.specs.Closed.{region_of, Closes, Goes, Decides}

pub goes-start : (c : Closing) → Closes c → Goes c c
goes-start c w = record {
  atoms = refl;
  whole = w.whole;
  logged = logs-none c.atoms c.decided c.noted.now (region_of c) w.room;
  held = record { name = refl; long = refl };
  cut = record { name = refl; long = refl };
  noted = record { name = refl; long = refl };
}

module _ (c d : Closing) (w : Closes c) (g : Goes c d) where
  logging : Logging c.atoms c.decided c.noted.now (region_of c) d.decided d.noted.now (region_of d)
  logging = record { logs = g.logged; long = g.noted.long }

  pub goes-closes : Closes d
  goes-closes = record {
    whole = subst (λ (n : ℕ). T (is_region n (region_of d))) (sym g.atoms) g.whole;
    room = subst (λ (n : ℕ). Room n d.decided d.noted.now (region_of d)) (sym g.atoms)
        (logging-room c.atoms c.decided c.noted.now (region_of c) w.room d.decided d.noted.now (region_of d) logging);
  }

  pub goes-on : (e : Closing) → Goes d e → Goes c e
  goes-on e h = record {
    atoms = h.atoms ∙ g.atoms;
    whole = subst (λ (n : ℕ). T (is_region n (region_of e))) g.atoms h.whole;
    logged = logs-both c.atoms c.decided c.noted.now (region_of c) w.room d.decided d.noted.now (region_of d) logging _ _ _
        (subst (λ (n : ℕ). Logs n d.decided d.noted.now (region_of d) e.decided e.noted.now (region_of e)) g.atoms h.logged);
    held = record { name = h.held.name ∙ g.held.name; long = h.held.long ∙ g.held.long };
    cut = record { name = h.cut.name ∙ g.cut.name; long = h.cut.long ∙ g.cut.long };
    noted = record { name = h.noted.name ∙ g.noted.name; long = h.noted.long ∙ g.noted.long };
  }

  -- what is decided in the later one, over the atoms of the first
  pub decides-on : (e : Closing) → Decides d e → Counted c.atoms d.decided e.decided (region_of d) (region_of e)
  decides-on e h = subst (λ (n : ℕ). Counted n d.decided e.decided (region_of d) (region_of e)) g.atoms h
