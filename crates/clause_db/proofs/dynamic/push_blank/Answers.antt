use Rattle.std.proofs.Common.{◌∷◌, [], ◌++◌, map, ap, sym, subst, ◌∙◌}
use Rattle.pl_model.specs.laws.Shown.{proc_of}
use Rattle.clause_db.specs.Index.{Indexed, hash_of}
use Rattle.clause_db.specs.Parts.{piece}
use Rattle.clause_db.specs.Sound.{names}
use Rattle.clause_db.proofs.Indexing.{parts_push, parts_stay}
use Rattle.clause_db.proofs.dynamic.push_blank.Goals as goal

pub returns-in_err-make_room-clause-indexed : goal.returns-in_err-make_room-clause-indexed
returns-in_err-make_room-clause-indexed g c =
    subst (λ l. Indexed c.make_room.new.index (names (map piece l))) (sym c.make_room.ensures.same)
    (parts_stay c.args.index.now c.make_room.new.index c.args.parts.now.items c.in_err-make_room.ensures.err c.requires)

pub returns-clause-indexed : goal.returns-clause-indexed
returns-clause-indexed g c =
    subst (λ l. Indexed c.make_room.new.index (names (map piece l))) (sym (c.push_reserved.ensures.items ∙ ap (λ l. l ++ c.in_ok-part.part ∷ []) c.make_room.ensures.same))
    (parts_push c.args.index.now c.make_room.new.index c.args.parts.now.items c.in_ok-part.part (hash_of (proc_of c.args.p.now)) (ap (λ x. hash_of (proc_of x.name)) c.in_ok-part.ensures) c.in_ok-make_room.ensures.ok c.requires)
