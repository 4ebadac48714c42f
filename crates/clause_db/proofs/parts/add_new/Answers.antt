use Rattle.std.proofs.Common.{◌≡◌, ◌∷◌, [], ◌++◌, ◌&&◌, ℕ, not, map, length, ap, sym, subst, ◌∙◌}
use Rattle.std.specs.Prelude.{◌==◌}
use Rattle.pl_model.specs.laws.Shown.{proc_of}
use Rattle.clause_db.specs.Index.{Indexed, hash_of, is_listed}
use Rattle.clause_db.specs.Parts.{piece}
use Rattle.clause_db.specs.Sound.{names}
use Rattle.clause_db.proofs.Indexing.{is_err_so, is_ok_so, parts_back, parts_push, parts_stay}
use Rattle.clause_db.proofs.parts.add_new.Goals as goal

pub returns-then-is_err-clause-indexed : goal.returns-then-is_err-clause-indexed
returns-then-is_err-clause-indexed g c =
    subst (λ l. Indexed c.make_room.new.index (names (map piece l))) (sym c.make_room.ensures.same)
    (parts_stay c.args.index.now c.make_room.new.index c.args.parts.now.items (is_err_so c.make_room.result _ (sym c.is_err.ensures.value ∙ c.if-is_err.true) c.make_room.ensures.err) c.requires.indexed)

pub returns-in-Ok-add_in-clause-indexed : goal.returns-in-Ok-add_in-clause-indexed
returns-in-Ok-add_in-clause-indexed g c =
    subst (λ l. Indexed c.make_room.new.index (names (map piece l))) (sym (c.push_reserved.ensures.items ∙ ap (λ l. l ++ c.add_in.new.part ∷ []) c.make_room.ensures.same))
    (parts_push c.args.index.now c.make_room.new.index c.args.parts.now.items c.add_in.new.part (hash_of (proc_of c.args.p.now)) (ap hash_of (ap proc_of c.add_in.ensures.name ∙ ap (λ x. proc_of x.name) c.in-Ok.ensures))
    (is_ok_so c.make_room.result _ (sym c.is_err.ensures.value ∙ c.if-is_err.false) c.make_room.ensures.ok) c.requires.indexed)

pub returns-in-Err-clause-indexed : goal.returns-in-Err-clause-indexed
returns-in-Err-clause-indexed g c =
    let grown = is_ok_so c.make_room.result _ (sym c.is_err.ensures.value ∙ c.if-is_err.false) c.make_room.ensures.ok in
    let Taken : ℕ → ℕ → Type 0 = λ h n. (k q : ℕ) → is_listed c.remove.new.self k q ≡ (not ((k == h) && (q == n)) && is_listed c.make_room.new.index k q) in
    let taken = subst (λ h. Taken h (length c.args.parts.now.items)) c.hash_of.ensures (subst (Taken c.hash_of.result) (c.len.ensures ∙ c.make_room.new.parts.ok.0 ∙ ap length c.make_room.ensures.same) c.remove.ensures) in
    subst (λ l. Indexed c.remove.new.self (names (map piece l))) (sym c.make_room.ensures.same)
    (parts_back c.args.index.now c.make_room.new.index c.remove.new.self c.args.parts.now.items (hash_of (proc_of c.args.p.now)) grown taken c.requires.indexed)
