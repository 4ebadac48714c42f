use Rattle.std.proofs.Common.{◌≡◌, ℕ, List, [], sym, ◌∙◌, ap, subst}
use Rattle.std.specs.Prelude.{encode_utf8_all}
use Rattle.pl_term.specs.Tree.{Chars}
use Rattle.run_model.specs.Report.{output_of, with_output}
use Rattle.pl_consult.specs.GoalWords.{refusals_of}
use Rattle.run_report.specs.Parts.{names_at}
use Rattle.run_report.specs.Sections.{IsSection}
use Rattle.run_report.proofs.LookupLaws.{found_part}
use Rattle.run_report.proofs.SectionLaws.{engine_so, names_so}
use Rattle.run_report.proofs.sections.engine_section.Goals as goal

pub returns-in_ok-section-in-Some-part_in : goal.returns-in_ok-section-in-Some-part_in
returns-in_ok-section-in-Some-part_in c p told finals ws t names i kept is at =
    let k = c.in-Some-part_in.part.now in
    let n = c.args.number in
    let f = found_part p told finals ws c.args.engines.now n k kept.each (sym c.in-Some-part_in.ensures) in
    let x = f.1.0 in
    let same : names_at k.number ws ≡ names = ap (λ (m : ℕ). names_at m ws) f.0 ∙ names_so ws n i t names is at in
    subst (IsSection c.in_ok-section-in-Some-part_in.section)
    (engine_so p told finals (refusals_of c.args.refused.now) n c.args.goal.now t names k x c.in_default.ensures f.0 f.1.1.final f.1.1.end f.1.1.operators)
    (c.in_ok-section-in-Some-part_in.ensures names x f.1.1.waited
    (f.1.2 ∙ ap (λ (ns : List (Chars × ℕ)). encode_utf8_all (with_output ns [] (output_of x))) same))
