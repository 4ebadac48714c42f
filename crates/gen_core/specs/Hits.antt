-- What a call finds.
use Rattle.std.specs.Prelude.{ℕ, Bool, Option}
use Rattle.std.specs.Option.{option_map}
use Rattle.gen_core.specs.declared.hit.Hit.{Hit}

-- The place, the clause and whether more follow.
abbrev pub hit_of : {C : Type 0} → Option (Hit C) → Option (ℕ × C × Bool)
hit_of r = option_map (λ h. (h.place, h.clause.now, h.more)) r
