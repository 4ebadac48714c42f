-- The turn in which a script is told how the search of its goal has ended; and the end of a directive's.
use Rattle.std.proofs.Common.{◌≡◌, ℕ, Bool, List, [], ◌++◌, Option, None, Some, Ok, refl, sym, ap, subst, ◌∙◌, append-nil}
use Rattle.std.specs.Prelude.{encode_utf8_all}
use Rattle.pl_term.specs.Tree.{Chars, Tree}
use Rattle.pl_model.specs.Resolution.{Ending, ended, Output}
use Rattle.run_model.specs.Execution.{Script, Job, Consulted, Execution}
use Rattle.run_model.specs.Lawful.{EndsSo}
use Rattle.atom_api.specs.Names.{Names}
use Rattle.term_store.specs.NumberedNames.{term_by}
use Rattle.pl_model.specs.declared.ends.How.{How}
use Rattle.script_api.specs.declared.script.Next.{Next}
use Rattle.script_api.specs.declared.script.Next.TheVariants.{Done}
use Rattle.world_api.specs.Texts.{text_of}
use Rattle.world_api.specs.Told.{Told}
use Rattle.script_api.specs.Parts.{Part, of_goal}
use Rattle.script_api.specs.Scripts.{Given, IsLast, LeavesOff, StandsBefore, written_at}
use Rattle.engine_run.specs.declared.runner.Runner.{Runner}
use Rattle.engine_run.specs.declared.runner.Stage.TheVariants.{Over}
use Rattle.engine_run.specs.declared.runner.Turn.TheVariants.{Ended}
use Rattle.engine_run.specs.Runners.{HasClosed, StandsFor, put_by}
use Rattle.engine_run.proofs.Turning.{bytes_of, text_of_lines}

pub one_ending : (e f : Ending) → ended e ≡ ended f → e ≡ f
one_ending e f is = cc

none_last : (h : Option ℕ) → (let next : Next Tree = Done h in IsLast (Some of_goal) next) → h ≡ None
none_last None is = refl
none_last (Some n) is = absurd is

module _ {S : Type 0} (execution : (ℕ → Chars) → S → Job → List Consulted → Execution) (part : S → Option Part) (plays : (ℕ → Chars) → S → Script → Type 0)
    (kept : S → Bool) (name : S → Chars) (variables : S → List (Chars × ℕ))
    (lines : (text : ℕ → Chars) (s : S) (job : Job) (cs : List Consulted) → (execution text s job cs).consulted ≡ cs)
    (m n : Names) (t u : Told) (old new : Runner S) where
  -- The script was told, and has no further item.
  pub is_closed : (how : How Tree) (given_how : Option (How Tree)) (h : Option ℕ)
      → new ≡ record old { script = new.script; text = new.text; moves = new.moves; stage = Over }
      → name new.script ≡ name old.script
      → part old.script ≡ Some of_goal
      → given_how ≡ Some how
      → (let next : Next Tree = Done h in IsLast (part old.script) next)
      → variables new.script ≡ variables old.script
      → Given execution part term_by plays kept (name old.script) (text_of m) (text_of n) old.script given_how t old.moves old.text.items (Done h) new.script u new.moves new.text.items
      → HasClosed execution part plays kept name variables m t old how n u new (Ok (Ended how))
  is_closed how given_how h is named at told last same_names given job cs s x ending has wants pl doing so there out w =
      let stood : StandsBefore execution part term_by (text_of m) old.script job (part old.script) given_how (Some s) cs x =
      subst (λ (o : Option Part). StandsBefore execution part term_by (text_of m) old.script job o given_how (Some s) cs x) (sym at)
      (subst (λ (k : Option (How Tree)). StandsBefore execution part term_by (text_of m) old.script job (Some of_goal) k (Some s) cs x) (sym told)
      (ending, doing, so, there))
      in let g = given job cs (Some s) x pl stood w.0 w.1
      in let last_ending : Ending = g.3.0
      in let os : List Output = g.3.1
      in let leaves : LeavesOff None (Some of_goal) (Some s) last_ending os =
      subst (λ (k : Option ℕ). LeavesOff k (Some of_goal) (Some s) last_ending os)
      (none_last h (subst (λ (o : Option Part). let next : Next Tree = Done h in IsLast o next) at last))
      (subst (λ (o : Option Part). LeavesOff h o (Some s) last_ending os) at g.3.2)
      in let same : ending ≡ last_ending = one_ending ending last_ending (sym doing ∙ leaves.0)
      in let written : written_at g.1 ≡ g.0 = ap written_at g.3.3 ∙ ap (λ l. l ++ []) (lines (text_of n) new.script job g.0) ∙ append-nil g.0
      in record {
        there = g.1;
        comes = g.2;
        stands =
            subst (λ (z : Runner S). StandsFor execution part plays kept name variables n u z job g.1) (sym is)
            (record {
              budgets = has;
              wants = wants;
              playing = g.4;
              consulted = g.0;
              stands =
                  record {
                    ending = last_ending;
                    written = os;
                    out_is =
                        out
                        ∙ ap (λ (xs : List Output). encode_utf8_all (put_by old.lines (variables old.script) [] xs)) (sym leaves.1)
                        ∙ ap (λ (vs : List (Chars × ℕ)). encode_utf8_all (put_by old.lines vs [] os)) (sym same_names);
                    is = g.3.3;
                  };
              text =
                  text_of_lines (name new.script) (kept new.script) g.1 g.0 new.text.items written
                  (g.5 ∙ ap (λ (c : Chars). bytes_of c g.0) (sym named)) g.6;
            });
        answer = (last_ending, subst (λ e. EndsSo e how) same so, ap (λ (e : Execution). e.activity) g.3.3);
      }
