use Rattle.std.proofs.Common.{◌≡◌, ◌+◌, ◌<◌, ◌^◌, sym, ap, subst, arith}
use Rattle.iso_search.specs.declared.search.Search.{Search}
use Rattle.iso_search.specs.Searching.{IsWhole, choices_of}
use Rattle.iso_search.proofs.Charging.{ball_fits, choices_taken, taken, whole_taken}
use Rattle.iso_search.proofs.search.Search.take.Goals as goal

pub returns-in-Ok-clause-whole : goal.returns-in-Ok-clause-whole
returns-in-Ok-clause-whole c =
    let e = c.args.self.now in
    subst (λ s. IsWhole (record e { store = s; next_variable = e.next_variable + c.args.variables })) (sym c.in-Ok.ensures.ok) (whole_taken e c.args.variables c.args.cells c.requires)

pub returns-in-Ok-clause-step : goal.returns-in-Ok-clause-step
returns-in-Ok-clause-step c t list p next =
    let e = c.args.self.now in
    let d : Search = record e { store = c.charge.new.self; next_variable = e.next_variable + c.args.variables } in
    let room : e.next_variable + c.args.variables < 2 ^ 64 = omega (arith, c.if-variables-self.false) in
    taken t e d c.args.variables c.args.cells p list next c.requires room c.in-Ok.ensures.fits
    (ap (λ s. let x : Search = record e { store = s; next_variable = e.next_variable + c.args.variables } in x) c.in-Ok.ensures.ok)

pub returns-in-Ok-clause-choices : goal.returns-in-Ok-clause-choices
returns-in-Ok-clause-choices c v =
    let e = c.args.self.now in
    subst (λ s. choices_of v (record e { store = s; next_variable = e.next_variable + c.args.variables }) ≡ choices_of v e) (sym c.in-Ok.ensures.ok)
    (choices_taken v e c.args.variables c.args.cells c.requires)

pub returns-in-Ok-clause-fits : goal.returns-in-Ok-clause-fits
returns-in-Ok-clause-fits c t list ball copy =
    let room : c.args.self.now.next_variable + c.args.variables < 2 ^ 64 = omega (arith, c.if-variables-self.false) in
    ball_fits t c.args.self.now list ball c.args.variables c.args.cells c.requires copy.variables_are copy.cells_are room c.in-Ok.ensures.fits
