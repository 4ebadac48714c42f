use Rattle.std.proofs.Common.{refl, sym, subst}
use Rattle.world_api.specs.Told.{Told}
use Rattle.world_api.specs.declared.visit.Procedure.{Procedure}
use Rattle.world_api.specs.Gains.{Gains}
use Rattle.world_builtins.specs.Naming.{IsHeldAt}
use Rattle.iso_search.specs.declared.failure.Back.TheVariants.{Answers}
use Rattle.iso_search.specs.Failures.{IsTaken}
use Rattle.iso_search.specs.Searching.{IsWhole}
use Rattle.iso_engine.specs.declared.engine.Engine.{Engine}
use Rattle.iso_engine.specs.Lines.{IsLineAsked, IsLineThere}
use Rattle.iso_engine.specs.Retrying.{IsGoneOn, IsTried}
use Rattle.iso_search.specs.declared.outcome.Outcome.{Outcome}
use Rattle.iso_engine.proofs.Interning.{nothing_asked}
use Rattle.iso_engine.proofs.Refusals.{at_exit, refused_end, refused_list, refused_on}
use Rattle.iso_engine.proofs.Tables.{line_tried, no_table_tried}
use Rattle.iso_engine.proofs.RowTaken.{IsFollowedAs}
use Rattle.iso_engine.proofs.engine.Engine.retry_line.Goals as goal

pub returns-in_default-clause-gone : goal.returns-in_default-clause-gone
returns-in_default-clause-gone g c t =
    no_table_tried (g.A.Atoms.held c.args.atoms.now) t c.args.self.now c.args.goal c.args.line c.args.next c.in_default.ensures

pub run_line-requires-clause-held : goal.run_line-requires-clause-held
run_line-requires-clause-held g c =
    subst (IsHeldAt (g.A.Atoms.held c.args.atoms.now) c.args.self.now.search.store) (sym c.in-Some.ensures.0) c.requires.held

pub returns-in_default-clause-asked : goal.returns-in_default-clause-asked
returns-in_default-clause-asked g c = let asked = g.A.Atoms.asked c.args.atoms.now in nothing_asked _ asked asked refl

pub returns-clause-gone : goal.returns-clause-gone
returns-clause-gone g c t =
    let e = c.args.self.now in
    let n = g.A.Atoms.held c.run_line.new.atoms in
    let r = c.in-Some.row_goal in
    let o = c.in_ok-outcome in
    let f : Engine = record e { search = c.run_line.new.search; doing = c.in_ok-self.field-0 } in
    subst (λ p. IsTried t e (Answers p c.args.line c.args.next) n t f) c.in-Some.ensures.0
    (line_tried n t e f r c.args.line c.args.next o.outcome c.in-Some.ensures.1 c.requires.next o.ensures.tried
    (subst (λ (p : Procedure). IsFollowedAs f c.args.next p o.outcome) c.procedure-procedure.ensures c.in_ok-self.ensures) refl)

pub returns-in_err-outcome-clause-gone : goal.returns-in_err-outcome-clause-gone
returns-in_err-outcome-clause-gone g c =
    let e = c.args.self.now in
    let n = g.A.Atoms.held c.run_line.new.atoms in
    let r = c.in-Some.row_goal in
    let x = c.run_line.new.search in
    let f : Engine = record e { search = x } in
    let w = c.in_err-outcome.field-0.0 in
    refused_end Outcome c.from_residual.result w (at_exit c.from_residual.result w c.from_residual.ensures.1) (IsLineThere e.search r c.args.line c.args.next x)
    (λ o. (t : Told) → IsGoneOn t e (Answers c.args.goal c.args.line c.args.next) n t f o)
    c.in_err-outcome.ensures.put_back
    (λ s again put t. (
      again,
      record {
        told = refl;
        taken = subst (λ p. IsTaken x e.search (Answers p c.args.line c.args.next)) c.in-Some.ensures.0 put.0;
        search = put.1;
        rest = refl;
      },
    ))

pub returns-in_err-outcome-clause-whole : goal.returns-in_err-outcome-clause-whole
returns-in_err-outcome-clause-whole g c =
    let w = c.in_err-outcome.field-0.0 in
    refused_on Outcome c.from_residual.result w (at_exit c.from_residual.result w c.from_residual.ensures.1) (IsWhole c.run_line.new.search) c.in_err-outcome.ensures.whole

pub returns-in_err-outcome-clause-refusals : goal.returns-in_err-outcome-clause-refusals
returns-in_err-outcome-clause-refusals g c =
    let w = c.in_err-outcome.field-0.0 in
    refused_list Outcome c.from_residual.result w (at_exit c.from_residual.result w c.from_residual.ensures.1) (g.A.Atoms.refusals c.args.atoms.now)
    (g.A.Atoms.refusals c.run_line.new.atoms) c.in_err-outcome.ensures.refusals

pub returns-in_err-outcome-clause-asked : goal.returns-in_err-outcome-clause-asked
returns-in_err-outcome-clause-asked g c =
    let a = c.args.atoms.now in
    subst
    (λ p. Gains (IsLineAsked (g.A.Atoms.held a) c.args.self.now.search.store p c.args.line) (g.A.Atoms.asked a) (g.A.Atoms.asked c.run_line.new.atoms))
    c.in-Some.ensures.0 c.run_line.ensures.asked

pub returns-in_err-self-clause-asked : goal.returns-in_err-self-clause-asked
returns-in_err-self-clause-asked g c =
    let a = c.args.atoms.now in
    subst
    (λ p. Gains (IsLineAsked (g.A.Atoms.held a) c.args.self.now.search.store p c.args.line) (g.A.Atoms.asked a) (g.A.Atoms.asked c.run_line.new.atoms))
    c.in-Some.ensures.0 c.run_line.ensures.asked

pub returns-clause-asked : goal.returns-clause-asked
returns-clause-asked g c =
    let a = c.args.atoms.now in
    subst
    (λ p. Gains (IsLineAsked (g.A.Atoms.held a) c.args.self.now.search.store p c.args.line) (g.A.Atoms.asked a) (g.A.Atoms.asked c.run_line.new.atoms))
    c.in-Some.ensures.0 c.run_line.ensures.asked
