-- A visit of the world in which nothing else happens.
use Rattle.std.proofs.Common.{◌≡◌, ℕ, zero, suc, ◌+◌, List, [], ◌∷◌, ◌++◌, Option, None, refl, sym, ap, subst, ◌∙◌, add-one}
use Rattle.std.specs.Prelude.{replicate}
use Rattle.std.specs.Arc.{arc_value}
use Rattle.std.specs.declared.alloc.Global.{Global}
use Rattle.std.specs.declared.sync.Arc.{Arc}
use Rattle.pl_term.specs.Tree.{Chars, Tree}
use Rattle.pl_model.specs.OperatorTable.{OperatorTable, opening_table}
use Rattle.pl_model.specs.History.{History}
use Rattle.pl_model.specs.SharedState.{state_at}
use Rattle.pl_model.specs.Requests.{Request, read_operators, standing}
use Rattle.pl_model.specs.Service.{answers, serve, served_now}
use Rattle.pl_model.specs.declared.grammar.Quotes.TheVariants.{Codes}
use Rattle.world_api.specs.declared.reply.Reply.TheVariants.{Standing}
use Rattle.world_api.specs.declared.visit.Visit.{Visit}
use Rattle.world_api.specs.declared.visit.Visit.TheVariants.{ReadOperators}
use Rattle.world_api.specs.Told.{Told, Follows}
use Rattle.world_api.specs.Answers.{Serves}
use Rattle.world_api.specs.Gains.{Gains}
use Rattle.world_api.proofs.Gaining.{gains_nothing}
use Rattle.world_builtins.specs.Still.{still}

one_more : (n : ℕ) → replicate {A = ℕ} (suc n) 0 ≡ replicate {A = ℕ} n 0 ++ 0 ∷ []
one_more zero = refl
one_more (suc n) = ap (λ l. 0 ∷ l) (one_more n)

operators_stand : (ops : OperatorTable) → ops ≡ opening_table → served_now 1 0 [] read_operators ≡ answers (standing ops Codes) None
unfolding serve state_at
operators_stand ops e = ap (λ t. answers (standing t Codes) None) (sym e)

read_still : {T K : Type 0} (term : (ℕ → Chars) → T → Tree) (key : T → K) (old_text new_text : ℕ → Chars) (ops : Arc OperatorTable Global) (n : ℕ)
    → arc_value ops ≡ opening_table → Serves {T = T} {K = K} term key old_text new_text ReadOperators (Standing ops Codes) 0 (still n) [] (still (suc n))
read_still {T = T} {K = K} term key old_text new_text ops n e =
    record {
      generation = refl;
      update = None;
      serves =
          λ q is. (standing (arc_value ops) Codes, subst (λ (p : Request). served_now 1 0 [] p ≡ answers (standing (arc_value ops) Codes) None) (sym is) (operators_stand (arc_value ops) e), refl);
      suits = tt;
      told = ap (λ l. let t : Told = record { engine = 1; goals = 0; history = []; gens = l } in t) (one_more n);
    }

pub still_served : {T K : Type 0} (term : (ℕ → Chars) → T → Tree) (key : T → K) (old_text new_text : ℕ → Chars) (v : Visit T K) (ops : Arc OperatorTable Global) (n k : ℕ)
    → v ≡ ReadOperators → arc_value ops ≡ opening_table → k ≡ n + 1
    → (before : History) × (Follows 1 [] before × Serves term key old_text new_text v (Standing ops Codes) 0 (still n) before (still k))
still_served {T = T} {K = K} term key old_text new_text v ops n k is e next = (
  [],
  (
    record { later = []; grown = refl; others = refl },
    subst (λ (w : Visit T K). Serves term key old_text new_text w (Standing ops Codes) 0 (still n) [] (still k)) (sym is)
        (subst (λ (j : ℕ). Serves {T = T} {K = K} term key old_text new_text ReadOperators (Standing ops Codes) 0 (still n) [] (still j)) (sym (next ∙ add-one n))
        (read_still {T = T} {K = K} term key old_text new_text ops n e)),
  ),
)

-- Nothing was asked of the atoms.
pub still_asks : (P : Chars → Type 0) (o : Option (List Chars)) → Gains P o o
still_asks P o = gains_nothing P o o refl
