use Rattle.std.proofs.Common.{◌+◌, ◌<◌, ◌^◌, refl, sym, ap, ap₂, subst, ◌∙◌, arith}
use Rattle.iso_search.specs.declared.search.Search.{Search}
use Rattle.iso_search.proofs.Budgets.{with_budget}
use Rattle.iso_search.proofs.Wholes.{choices_back, newest_older, release_fits, whole_back}
use Rattle.iso_search.proofs.search.Search.backtrack.Goals as goal

pub release-requires : goal.release-requires
release-requires c =
    let e = c.args.self.now in
    let k = c.in_ok-k.k in
    let fits = release_fits e c.pop.new.self.items k c.in_ok-k.ensures.items c.requires (omega arith) in
    subst (λ n. n < 2 ^ 64) (sym (ap₂ (λ n m. n + m) (ap (λ s. s.budget) c.undo_to.ensures.back) c.held_cells.ensures)) fits

pub returns-clause-whole : goal.returns-clause-whole
returns-clause-whole c =
    let e = c.args.self.now in
    let k = c.in_ok-k.k in
    let d : Search = record e { store = c.release.new.self; frames = c.truncate.new.self; choices = c.pop.new.self } in
    let stored = c.release.ensures ∙ ap₂ (λ s n. with_budget s (s.budget + n)) c.undo_to.ensures.back c.held_cells.ensures in
    whole_back e c.pop.new.self.items k c.in_ok-k.ensures.items c.requires d refl c.truncate.ensures.items
    (ap (λ s. let x : Search = record e { store = s; frames = c.truncate.new.self; choices = c.pop.new.self } in x) stored)

pub returns-clause-back : goal.returns-clause-back
returns-clause-back c =
    let e = c.args.self.now in
    let k = c.in_ok-k.k in
    let d : Search = record e { store = c.release.new.self; frames = c.truncate.new.self; choices = c.pop.new.self } in
    let stored = c.release.ensures ∙ ap₂ (λ s n. with_budget s (s.budget + n)) c.undo_to.ensures.back c.held_cells.ensures in
    choices_back e c.pop.new.self.items k c.in_ok-k.ensures.items c.requires d refl c.truncate.ensures.items
    (ap (λ s. let x : Search = record e { store = s; frames = c.truncate.new.self; choices = c.pop.new.self } in x) stored)

pub returns-clause-copies : goal.returns-clause-copies
returns-clause-copies c = newest_older c.args.self.now c.pop.new.self.items c.in_ok-k.k c.in_ok-k.ensures.items c.requires
