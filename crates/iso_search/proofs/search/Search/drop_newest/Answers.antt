use Rattle.std.proofs.Common.{◌+◌, ◌<◌, ◌^◌, refl, sym, ap, subst, ◌∙◌, arith}
use Rattle.iso_search.specs.declared.search.Search.{Search}
use Rattle.iso_search.proofs.Budgets.{with_budget}
use Rattle.iso_search.proofs.Wholes.{release_fits, whole_dropped}
use Rattle.iso_search.proofs.search.Search.drop_newest.Goals as goal

pub release-requires : goal.release-requires
release-requires c =
    let e = c.args.self.now in
    let k = c.in-Some.k in
    let fits = release_fits e c.pop.new.self.items k c.in-Some.ensures.items c.requires.whole (omega arith) in
    subst (λ n. e.store.budget + n < 2 ^ 64) (sym c.held_cells.ensures) fits

pub returns-in-Some-clause-whole : goal.returns-in-Some-clause-whole
returns-in-Some-clause-whole c =
    let e = c.args.self.now in
    let k = c.in-Some.k in
    let d : Search = record e { store = c.release.new.self; choices = c.pop.new.self } in
    let stored = c.release.ensures ∙ ap (λ n. with_budget e.store (e.store.budget + n)) c.held_cells.ensures in
    whole_dropped e c.pop.new.self.items k c.in-Some.ensures.items c.requires.whole d refl
    (ap (λ s. let x : Search = record e { store = s; choices = c.pop.new.self } in x) stored)
