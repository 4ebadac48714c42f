use Rattle.std.proofs.Common.{◌<◌, ◌≤◌, ◌^◌, ℕ, None, length, refl, sym, ap, subst, ◌∙◌, arith}
use Rattle.std.specs.Prelude.{codes}
use Rattle.pl_model.specs.ErrorTerms.{resource_error}
use Rattle.pl_model.specs.Flags.{with_flag}
use Rattle.pl_model.specs.History.{set_flag}
use Rattle.pl_model.specs.Requests as requests
use Rattle.pl_model.specs.SharedState.{state_at}
use Rattle.atom_words.specs.Seats.{seen}
use Rattle.atom_table.specs.Naming.{names}
use Rattle.world_api.specs.Texts.{text_of}
use Rattle.hub_database.specs.Clauses.{clause_by}
use Rattle.hub_database.specs.Database.{IsUpTo, databases}
use Rattle.hub_database.proofs.ChangedRows.{settings_database}
use Rattle.hub_database.proofs.Deciding.{refused_after, refused_by, refused_named}
use Rattle.hub_database.proofs.Served.{flag_put, flag_worn}
use Rattle.hub_database.proofs.flags.put_flag.Goals as goal

pub returns-then-generation-ge-MOST_UPDATES-clause-upto : goal.returns-then-generation-ge-MOST_UPDATES-clause-upto
returns-then-generation-ge-MOST_UPDATES-clause-upto g c = subst (λ (n : ℕ). IsUpTo n c.args.db.now) (sym (refused_after None (λ m. resource_error (codes "generations")) c.refusal.result c.args.generation (c.refusal.ensures.refuses None (λ m. resource_error (codes "generations")) c.worn_error.ensures))) c.requires.upto

pub returns-then-generation-ge-MOST_UPDATES-clause-named : goal.returns-then-generation-ge-MOST_UPDATES-clause-named
returns-then-generation-ge-MOST_UPDATES-clause-named g c = refused_named (names (seen c.args.atoms.now.seat)) None (λ m. resource_error (codes "generations")) c.args.atoms.now.lawful.stand tt c.refusal.result (c.refusal.ensures.refuses None (λ m. resource_error (codes "generations")) c.worn_error.ensures)

pub returns-then-generation-ge-MOST_UPDATES-clause-says : goal.returns-then-generation-ge-MOST_UPDATES-clause-says
returns-then-generation-ge-MOST_UPDATES-clause-says g c = λ k goals e h at is.
    let m = names (seen c.args.atoms.now.seat) in
    let f = text_of m c.args.flag in
    let v = text_of m c.args.value in
    let many : 2 ^ 47 ≤ length h = (let high = c.if-generation-ge-MOST_UPDATES.true in omega (arith, high, at)) in
    refused_by goals e m (requests.put_flag f v) h None (λ m. resource_error (codes "generations")) c.args.atoms.now.lawful.stand tt
    (flag_worn e (state_at goals h (length h)) (length h) f v many) (set_flag f v) k c.args.db.now is c.refusal.result (c.refusal.ensures.refuses None (λ m. resource_error (codes "generations")) c.worn_error.ensures)

pub returns-clause-says : goal.returns-clause-says
returns-clause-says g c = λ k goals e h at is.
    let m = names (seen c.args.atoms.now.seat) in
    let f = text_of m c.args.flag in
    let v = text_of m c.args.value in
    let few : length h < 2 ^ 47 = (let low = c.if-generation-ge-MOST_UPDATES.false in omega (arith, low, at)) in (
      record { reply = requests.done; serves = flag_put e (state_at goals h (length h)) (length h) f v few; says = refl },
      settings_database goals e h k c.set.new.db (set_flag f v) is.open_only refl (c.set.ensures.says (clause_by k) (databases goals h) is.says)
          (c.set.ensures.flags m c.args.atoms.now.lawful ∙ ap (with_flag f v) is.flags) (c.set.ensures.operators ∙ is.operators),
    )
