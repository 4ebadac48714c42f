-- Steps of an engine whose work was taken out and put back.
use Rattle.std.proofs.Common.{◌≡◌, ℕ, List, [], ◌++◌, Option, sym, ap, subst, ◌∙◌, append-nil}
use Rattle.std.specs.Prelude.{encode_utf8_all}
use Rattle.pl_model.specs.Resolution.{Output}
use Rattle.atom_api.specs.Names.{Names}
use Rattle.world_api.specs.Told.{Told}
use Rattle.iso_engine.specs.declared.doing.Doing.{Doing}
use Rattle.iso_engine.specs.declared.engine.Engine.{Engine}
use Rattle.iso_engine.specs.declared.slices.Slice.{Slice}
use Rattle.iso_engine.specs.Slices.{IsStepped, written_text}

pub silent_out : (xs : List ℕ) (more : List Output) → written_text more ≡ [] → xs ≡ xs ++ encode_utf8_all (written_text more)
silent_out xs more silent = sym (append-nil xs) ∙ ap (λ l. xs ++ encode_utf8_all l) (sym silent)

pub stepped_again : (m : Names) (t : Told) (e : Engine) (d : Doing) (o : Option Slice) (n : Names) (u : Told) (f : Engine) (more : List Output)
    → e.doing ≡ d
    → (let g : Engine = record e { doing = d } in IsStepped m t g o n u f more)
    → IsStepped m t e o n u f more
stepped_again m t e d o n u f more same h =
    let again = subst (λ (x : Doing). let g : Engine = record e { doing = x } in IsStepped m t g o n u f more) (sym same) h in again
