use Rattle.std.proofs.Common.{◌+◌, ◌<◌, ◌≤◌, ◌^◌, length, codes, refl, sym, subst, ◌∙◌}
use Rattle.pl_term.specs.Cells.{cells}
use Rattle.pl_term.specs.Variables.{rename, variables}
use Rattle.pl_model.specs.BuiltinRows.{Answer}
use Rattle.pl_model.specs.History.{proc}
use Rattle.pl_model.specs.TermBuiltins.{two}
use Rattle.term_store.specs.Contents.{IsAbove}
use Rattle.world_builtins.specs.Spelling.{reads}
use Rattle.builtin_rows.specs.Rows.{Makes}
use Rattle.builtin_term.proofs.PartAnswers.{makes_room, none_of, refused_given, some_of}
use Rattle.builtin_term.proofs.CopyRows.{copy_given, kept_cells, kept_variables, makes_built}
use Rattle.builtin_term.proofs.Making.{makes_after}
use Rattle.builtin_term.proofs.FixedNames.{copy_term_is}
use Rattle.builtin_term.proofs.copies.copy_kept.Goals as goal

pub build-requires-clause-above : goal.build-requires-clause-above
build-requires-clause-above c =
    subst (λ t. IsAbove c.args.next t) (sym (none_of _ c.in_ok-refused.refused c.in-None.is c.in_ok-refused.ensures.taken)) c.requires.above

pub returns-in-Some-clause-row : goal.returns-in-Some-clause-row
returns-in-Some-clause-row c m v stands held =
    let s = c.args.store.now in
    let t = reads m s c.args.term in
    let kept = c.args.kept.now in
    let a : Answer = record { terms = two t (rename c.args.next t); fresh = length (variables t); made = cells t } in
    refused_given s c.args.next (proc (codes "copy_term") 2) m c.take_room.new.store a c.in-Some.row
    (λ ts. some_of _ c.in_ok-refused.refused c.in-Some.row c.in-Some.is c.in_ok-refused.ensures.refused m (codes "copy_term") ts a stands copy_term_is
    (kept_variables m s c.args.term kept c.requires.kept ∙ sym c.variables-count.ensures) (kept_cells m s c.args.term kept c.requires.kept ∙ sym c.cells.ensures))

pub returns-in_ok-copy-in-None-clause-row : goal.returns-in_ok-copy-in-None-clause-row
returns-in_ok-copy-in-None-clause-row c m v stands held =
    let s = c.args.store.now in
    let t = c.take_room.new.store in
    let u = c.build.new.self in
    let next = c.args.next in
    let kept = c.args.kept.now in
    let b = c.in_ok-copy-in-None.ensures in
    let n = length (variables kept) in
    let same = none_of _ c.in_ok-refused.refused c.in-None.is c.in_ok-refused.ensures.taken in
    let room = makes_room s t next c.cells.result same in
    copy_given m s u next c.args.term c.in_ok-copy-in-None.copy kept c.requires.kept b.built.means b.built.holds c.requires.term held
    (subst (λ k. Makes s next n k u) c.cells.ensures
    (makes_after s t u next n c.cells.result room (makes_built t u next n kept c.in_ok-copy-in-None.copy b.built b.adds refl)))
    v c.variables-count.result c.variables-count.ensures
    (subst (λ k. next + k < 2 ^ 64) c.variables-count.ensures (none_of _ c.in_ok-refused.refused c.in-None.is c.in_ok-refused.ensures.numbers))
    (subst (λ k. s.used + k ≤ s.budget) c.cells.ensures (none_of _ c.in_ok-refused.refused c.in-None.is c.in_ok-refused.ensures.cells))
