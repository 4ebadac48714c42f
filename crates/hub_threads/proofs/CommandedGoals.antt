-- A goal of the command begins.
use Rattle.std.proofs.Common.{◌≡◌, ◌<◌, ◌++◌, ℕ, length, arith, Some, Bool, true, false, refl, ap, ◌∙◌, codes}
use Rattle.std.specs.Prelude.{◌^◌, if◌then◌else◌}
use Rattle.std.specs.Fmt.{decimal}
use Rattle.std.specs.Str.{IsAscii, chars}
use Rattle.std.proofs.lemmas.Fmt.{IsAscii-decimal}
use Rattle.std.proofs.lemmas.Str.{IsAscii-append, chars-IsAscii}
use Rattle.pl_term.specs.Tree.{Tree, atom}
use Rattle.pl_model.specs.ErrorTerms.{permission_error}
use Rattle.pl_model.specs.History.{History}
use Rattle.pl_model.specs.Requests.{done, start_goal}
use Rattle.pl_model.specs.Service.{alias_taken, refuses, serve, served_now, started as starts}
use Rattle.pl_model.specs.SharedState.{SharedState, state_at}
use Rattle.pl_model.specs.Threads.{goal_alias, is_alias}
use Rattle.atom_words.specs.declared.view.View.{View}
use Rattle.counted_terms.specs.CountedTerms.{said}
use Rattle.counted_terms.specs.Keeping.{kept}
use Rattle.hub_threads.specs.Held.{Held}
use Rattle.hub_threads.specs.Threads.{IsThreads}
use Rattle.hub_threads.proofs.Served.{alias_as}

module _ (k : View) (q : Held Tree) (count goals : ℕ) (h : History) (stands : IsThreads k q count goals h) (e n : ℕ) (t : Tree) where
  abbrev s : SharedState
  s = state_at goals h (length h)

  goal_served : served_now e goals h (start_goal n t) ≡ (if is_alias s.threads (goal_alias n) then alias_taken (codes "thread") (goal_alias n) else starts s (length h) n t (Some (goal_alias n)) done)
  unfolding serve
  goal_served = refl

  by_alias : (b : Bool) → is_alias q.state (goal_alias n) ≡ b → served_now e goals h (start_goal n t) ≡ (if b then alias_taken (codes "thread") (goal_alias n) else starts s (length h) n t (Some (goal_alias n)) done)
  by_alias b is =
      goal_served
      ∙ ap (λ d. if d then alias_taken (codes "thread") (goal_alias n) else starts s (length h) n t (Some (goal_alias n)) done) (alias_as (said (kept k)) q.state s.threads (goal_alias n) stands.threads ∙ is)

  pub goal_refused : is_alias q.state (goal_alias n) ≡ true → served_now e goals h (start_goal n t) ≡ refuses (permission_error (codes "create") (codes "thread") (atom (goal_alias n)))
  goal_refused is = by_alias true is

  pub goal_starts : is_alias q.state (goal_alias n) ≡ false → served_now e goals h (start_goal n t) ≡ starts s (length h) n t (Some (goal_alias n)) done
  goal_starts is = by_alias false is

-- The alias is written in ASCII characters.
goal_ascii : IsAscii (codes "goal")
goal_ascii = grind arith

pub goal_text : (n : ℕ) → n < 2 ^ 64 → chars (codes "goal" ++ decimal n) ≡ goal_alias n
goal_text n low = chars-IsAscii (codes "goal" ++ decimal n) (IsAscii-append (codes "goal") (decimal n) goal_ascii (IsAscii-decimal n low))
