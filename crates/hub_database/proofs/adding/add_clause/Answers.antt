use Rattle.std.proofs.Common.{◌≡◌, ◌++◌, ℕ, None, Some, sym, ap, subst, ◌∙◌, arith}
use Rattle.std.specs.Prelude.{◌⊎◌, IsSome}
use Rattle.std.specs.List.{All}
use Rattle.pl_term.specs.Tree.{Tree}
use Rattle.pl_model.specs.History.{head_part}
use Rattle.pl_model.specs.Predicates.{proc_of as predicate_of}
use Rattle.pl_model.specs.Service.{clause_cells, entry_by}
use Rattle.pl_model.specs.laws.Shown.{proc_of}
use Rattle.pl_model.specs.declared.shows.Origin.{Origin}
use Rattle.atom_api.specs.Names.{Names}
use Rattle.atom_words.specs.Seats.{seen}
use Rattle.atom_table.specs.Naming.{names}
use Rattle.clause_db.specs.Faults.{addition_fault}
use Rattle.clause_db.specs.declared.fault.DbFault.TheVariants.{Memory as NoMemory}
use Rattle.term_store.specs.KeptLaws.{sizes_are_told}
use Rattle.term_store.specs.NumberedNames.{names_of}
use Rattle.world_api.specs.Texts.{text_of}
use Rattle.world_api.specs.Visits.{clause_in, proc_named}
use Rattle.counted_terms.specs.CountedTerms.{said}
use Rattle.counted_terms.specs.Keeping.{keeper_view}
use Rattle.counted_terms.specs.Sharing.{Restored}
use Rattle.counted_terms.proofs.Comparing.{texts_apart}
use Rattle.counted_terms.proofs.Sharing.{restored_same}
use Rattle.hub_database.specs.Adding.{adding_kind, origin_by}
use Rattle.hub_database.specs.Clauses.{clause_by}
use Rattle.hub_database.specs.Database.{IsDatabase, IsUpTo, clause_counts, databases}
use Rattle.hub_database.proofs.AddedRows.{addition_after, addition_named, fault_by_cells, kept_out, made_decides, refused_decides}
use Rattle.hub_database.proofs.Deciding.{quiet_by, quiet_then, steady_database}
use Rattle.hub_database.proofs.adding.add_clause.Goals as goal

pub predicate_text-requires : goal.predicate_text-requires
predicate_text-requires g c = c.in-Some.ensures.named (names (seen c.args.atoms.now.seat)) c.args.atoms.now.lawful (subst (λ (t : Tree). All (λ a. IsSome (names (seen c.args.atoms.now.seat) a)) (names_of t)) (sym c.term.ensures) c.requires.held)

pub store_clause-requires-clause-held : goal.store_clause-requires-clause-held
store_clause-requires-clause-held g c = subst (λ (m : Names). All (λ a. IsSome (m a)) (names_of c.args.clause)) (sym c.predicate_text.ensures.held) c.requires.held

-- FROM THE LAST GENERATION ON
pub returns-then-generation-ge-MOST_UPDATES-clause-restored : goal.returns-then-generation-ge-MOST_UPDATES-clause-restored
returns-then-generation-ge-MOST_UPDATES-clause-restored g c =
    subst (λ (n : ℕ). Restored (clause_counts c.args.db.now) (clause_counts c.args.db.now) (keeper_view c.args.keeper.now) (keeper_view c.agree.new.keeper) c.args.generation n)
    (sym (addition_after c.in-Some.procedure c.addition_refusal.result c.no_addition.result c.args.generation c.no_addition.ensures.refuses))
    (restored_same (clause_counts c.args.db.now) (keeper_view c.args.keeper.now) (keeper_view c.agree.new.keeper) c.args.generation c.agree.ensures.keeps (λ a. ap (λ (f : ℕ → ℕ). f a) c.agree.ensures.counts))

pub returns-then-generation-ge-MOST_UPDATES-clause-upto : goal.returns-then-generation-ge-MOST_UPDATES-clause-upto
returns-then-generation-ge-MOST_UPDATES-clause-upto g c =
    subst (λ (n : ℕ). IsUpTo n c.args.db.now) (sym (addition_after c.in-Some.procedure c.addition_refusal.result c.no_addition.result c.args.generation c.no_addition.ensures.refuses)) c.requires.upto

pub returns-then-generation-ge-MOST_UPDATES-clause-quiet : goal.returns-then-generation-ge-MOST_UPDATES-clause-quiet
returns-then-generation-ge-MOST_UPDATES-clause-quiet g c =
    quiet_then (seen c.args.atoms.now.seat) (seen c.predicate_text.new.atoms.seat) (seen c.agree.new.atoms.seat) c.predicate_text.ensures.quiet
    (quiet_by (seen c.predicate_text.new.atoms.seat) (seen c.agree.new.atoms.seat) c.agree.ensures.held c.agree.ensures.refusals c.agree.ensures.requests)

pub returns-then-generation-ge-MOST_UPDATES-clause-named : goal.returns-then-generation-ge-MOST_UPDATES-clause-named
returns-then-generation-ge-MOST_UPDATES-clause-named g c =
    let m = names (seen c.agree.new.atoms.seat) in
    let held : m ≡ names (seen c.args.atoms.now.seat) = c.agree.ensures.held ∙ c.predicate_text.ensures.held in
    addition_named m c.in-Some.procedure c.agree.new.atoms.lawful.stand
    (subst (λ (n : Names). IsSome (n c.in-Some.procedure.name)) (sym held) (c.in-Some.ensures.named (names (seen c.args.atoms.now.seat)) c.args.atoms.now.lawful (subst (λ (t : Tree). All (λ a. IsSome (names (seen c.args.atoms.now.seat) a)) (names_of t)) (sym c.term.ensures) c.requires.held)))
    c.addition_refusal.result c.no_addition.result c.no_addition.ensures.refuses

pub returns-then-generation-ge-MOST_UPDATES-clause-says : goal.returns-then-generation-ge-MOST_UPDATES-clause-says
returns-then-generation-ge-MOST_UPDATES-clause-says g c = λ goals e h at is.
    let old = names (seen c.args.atoms.now.seat) in
    let m = names (seen c.agree.new.atoms.seat) in
    let held : m ≡ old = c.agree.ensures.held ∙ c.predicate_text.ensures.held in
    let k = keeper_view c.args.keeper.now in
    let t = c.args.clause in
    let p = proc_of c.in-Ok.p in
    let cl = clause_in (said old t) in
    let own : p ≡ predicate_of (head_part (said old t)) = c.in-Ok.ensures.spelled ∙ c.in-Some.ensures.says old c.args.atoms.now.lawful ∙ ap (λ (u : Tree). predicate_of (head_part (said old u))) c.term.ensures in
    let cells : clause_cells (clause_by k t) ≡ clause_cells cl = sym (c.agree.ensures.agreed.costs t) ∙ sizes_are_told (text_of old) (texts_apart old c.args.atoms.now.lawful) t in
    let fault : addition_fault clause_cells (databases goals h c.args.generation) p (origin_by c.args.by) cl ≡ c.addition_refusal.result =
    sym (c.addition_refusal.ensures (clause_by k) (databases goals h) (c.agree.ensures.agreed.costs t) is.says
    ∙ ap (λ (o : Origin). addition_fault clause_cells (databases goals h c.args.generation) p o (clause_by k t)) c.origin_of.ensures
    ∙ fault_by_cells (databases goals h c.args.generation) p (origin_by c.args.by) (clause_by k t) cl cells) in
    refused_decides goals e h c.args.generation at c.args.by cl p own (keeper_view c.agree.new.keeper) c.args.db.now m c.in-Some.procedure
    (c.in-Ok.ensures.spelled ∙ ap (λ (n : Names). proc_named (text_of n) c.in-Some.procedure) (sym held)) c.agree.new.atoms.lawful.stand
    (subst (λ (n : Names). IsSome (n c.in-Some.procedure.name)) (sym held) (c.in-Some.ensures.named old c.args.atoms.now.lawful (subst (λ (u : Tree). All (λ a. IsSome (old a)) (names_of u)) (sym c.term.ensures) c.requires.held)))
    (steady_database k (keeper_view c.agree.new.keeper) c.args.db.now goals h c.agree.ensures.keeps is)
    c.addition_refusal.result fault (λ none. let many = c.if-generation-ge-MOST_UPDATES.true in omega (arith, many)) c.no_addition.result c.no_addition.ensures.refuses

-- THE CLAUSE IS STORED
pub returns-in-Ok-store_clause-clause-restored : goal.returns-in-Ok-store_clause-clause-restored
returns-in-Ok-store_clause-clause-restored g c = c.in-Ok-store_clause.ensures.stored

pub returns-in-Ok-store_clause-clause-quiet : goal.returns-in-Ok-store_clause-clause-quiet
returns-in-Ok-store_clause-clause-quiet g c = quiet_then (seen c.args.atoms.now.seat) (seen c.predicate_text.new.atoms.seat) (seen c.store_clause.new.atoms.seat) c.predicate_text.ensures.quiet c.store_clause.ensures.quiet

pub returns-in-Ok-store_clause-clause-says : goal.returns-in-Ok-store_clause-clause-says
returns-in-Ok-store_clause-clause-says g c = λ goals e h at is.
    let old = names (seen c.args.atoms.now.seat) in
    let t = c.args.clause in
    let p = proc_of c.in-Ok.p in
    let own : p ≡ predicate_of (head_part (said old t)) = c.in-Ok.ensures.spelled ∙ c.in-Some.ensures.says old c.args.atoms.now.lawful ∙ ap (λ (u : Tree). predicate_of (head_part (said old u))) c.term.ensures in
    let both = subst (λ (n : Names). (addition_fault clause_cells (databases goals h c.args.generation) p (origin_by c.args.by) (clause_in (said n t)) ≡ None)
    × (p ≡ predicate_of (head_part (said n t)) → IsDatabase (keeper_view c.store_clause.new.keeper) c.store_clause.new.db goals (h ++ entry_by e (Some (adding_kind c.args.by p (clause_in (said n t)))))))
    c.predicate_text.ensures.held (c.in-Ok-store_clause.ensures.says goals e h at is) in
    made_decides goals e h c.args.generation at c.args.by (clause_in (said old t)) p own (keeper_view c.store_clause.new.keeper) c.store_clause.new.db (text_of (names (seen c.store_clause.new.atoms.seat)))
    (let below = c.if-generation-ge-MOST_UPDATES.false in omega (arith, below)) both.0 (both.1 own)

-- IT IS NOT
pub returns-clause-restored : goal.returns-clause-restored
returns-clause-restored g c =
    subst (λ (n : ℕ). Restored (clause_counts c.args.db.now) (clause_counts c.store_clause.new.db) (keeper_view c.args.keeper.now) (keeper_view c.store_clause.new.keeper) c.args.generation n)
    (sym (addition_after c.in-Some.procedure (Some c.in-Err.fault) c.no_addition-in-Err.result c.args.generation c.no_addition-in-Err.ensures.refuses)) c.in-Err.ensures.forgotten

pub returns-clause-upto : goal.returns-clause-upto
returns-clause-upto g c =
    subst (λ (n : ℕ). IsUpTo n c.store_clause.new.db) (sym (addition_after c.in-Some.procedure (Some c.in-Err.fault) c.no_addition-in-Err.result c.args.generation c.no_addition-in-Err.ensures.refuses))
    (subst (λ d. IsUpTo c.args.generation d) (sym c.in-Err.ensures.unchanged) c.requires.upto)

pub returns-clause-quiet : goal.returns-clause-quiet
returns-clause-quiet g c = quiet_then (seen c.args.atoms.now.seat) (seen c.predicate_text.new.atoms.seat) (seen c.store_clause.new.atoms.seat) c.predicate_text.ensures.quiet c.store_clause.ensures.quiet

pub returns-clause-named : goal.returns-clause-named
returns-clause-named g c =
    let m = names (seen c.store_clause.new.atoms.seat) in
    let held : m ≡ names (seen c.args.atoms.now.seat) = c.store_clause.ensures.held ∙ c.predicate_text.ensures.held in
    addition_named m c.in-Some.procedure c.store_clause.new.atoms.lawful.stand
    (subst (λ (n : Names). IsSome (n c.in-Some.procedure.name)) (sym held) (c.in-Some.ensures.named (names (seen c.args.atoms.now.seat)) c.args.atoms.now.lawful (subst (λ (t : Tree). All (λ a. IsSome (names (seen c.args.atoms.now.seat) a)) (names_of t)) (sym c.term.ensures) c.requires.held)))
    (Some c.in-Err.fault) c.no_addition-in-Err.result c.no_addition-in-Err.ensures.refuses

pub returns-clause-says : goal.returns-clause-says
returns-clause-says g c = λ goals e h at is.
    let old = names (seen c.args.atoms.now.seat) in
    let m = names (seen c.store_clause.new.atoms.seat) in
    let held : m ≡ old = c.store_clause.ensures.held ∙ c.predicate_text.ensures.held in
    let t = c.args.clause in
    let p = proc_of c.in-Ok.p in
    let own : p ≡ predicate_of (head_part (said old t)) = c.in-Ok.ensures.spelled ∙ c.in-Some.ensures.says old c.args.atoms.now.lawful ∙ ap (λ (u : Tree). predicate_of (head_part (said old u))) c.term.ensures in
    kept_out goals e h c.args.generation at c.args.by (clause_in (said old t)) p own (keeper_view c.store_clause.new.keeper) c.store_clause.new.db m c.in-Some.procedure
    (c.in-Ok.ensures.spelled ∙ ap (λ (n : Names). proc_named (text_of n) c.in-Some.procedure) (sym held)) c.store_clause.new.atoms.lawful.stand
    (subst (λ (n : Names). IsSome (n c.in-Some.procedure.name)) (sym held) (c.in-Some.ensures.named old c.args.atoms.now.lawful (subst (λ (u : Tree). All (λ a. IsSome (old a)) (names_of u)) (sym c.term.ensures) c.requires.held)))
    (c.in-Err.ensures.was goals h is) c.in-Err.fault
    (subst (λ (n : Names). (c.in-Err.fault ≡ NoMemory) ⊎ (addition_fault clause_cells (databases goals h c.args.generation) p (origin_by c.args.by) (clause_in (said n t)) ≡ Some c.in-Err.fault)) c.predicate_text.ensures.held (c.in-Err.ensures.says goals e h at is))
    c.no_addition-in-Err.result c.no_addition-in-Err.ensures.refuses
