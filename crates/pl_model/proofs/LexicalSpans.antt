-- Where a token lies, seen from the place where it was looked for.
use Rattle.std.proofs.Common.{◌≡◌, ℕ, ◌+◌, ◌≤◌, ◌==◌, List, length, drop, Result, Ok, Err, refl, sym, ap, ◌∙◌, arith}
use Rattle.std.proofs.lemmas.List.{length-drop}
use Rattle.pl_model.specs.declared.syntax.SyntaxFault.{SyntaxFault}
use Rattle.pl_model.specs.declared.lexical.TokenKind.{TokenKind}
use Rattle.pl_model.specs.declared.lexical.Reading.{Reading}
use Rattle.pl_model.specs.declared.lexical.Reading.TheVariants.{Token, Fault, Nothing}
use Rattle.pl_model.specs.Tokens.{skip_layout}
use Rattle.pl_model.specs.LexicalTokens.{token_front, placed, from_start, token_at, token}
use Rattle.pl_model.specs.laws.LexicalLaws.{NextTo}
use Rattle.pl_model.proofs.TokenPlaces.{skip_layout-forward}
use Rattle.pl_model.proofs.LexicalPlaces.{ReadsWithin, token_front-within}

placed-next : (text : List ℕ) (at start : ℕ) (kind : TokenKind) (s e : ℕ) (r : Reading) → skip_layout at 0 (drop at text) ≡ Ok start
    → ReadsWithin (length (drop start text)) r → placed start r ≡ token kind s e → NextTo text at s e
placed-next text at start kind s e (Token k n) from within is =
    let begins : s ≡ start = cc in
    let ends : e ≡ start + n = cc in
    let forward : at ≤ start = skip_layout-forward at 0 (drop at text) start from in
    let left = length-drop start text in
    record {
      layout = from ∙ ap (λ m. Ok m) (sym begins);
      behind = omega arith;
      some = omega (arith, within.0);
      within = omega (arith, within.0, within.1, left);
    }
placed-next text at start kind s e (Fault k n) from within is = cc
placed-next text at start kind s e Nothing from within is = cc

layout-next : (text : List ℕ) (at : ℕ) (kind : TokenKind) (s e : ℕ) (r : Result ℕ SyntaxFault) → skip_layout at 0 (drop at text) ≡ r
    → from_start text at r ≡ token kind s e → NextTo text at s e
layout-next text at kind s e (Err f) from is = cc
layout-next text at kind s e (Ok start) from is =
    placed-next text at start kind s e (token_front (start == at) (drop start text)) from (token_front-within (start == at) (drop start text)) is

pub token_next : (text : List ℕ) (at : ℕ) (kind : TokenKind) (s e : ℕ) → token_at text at ≡ token kind s e → NextTo text at s e
unfolding token_at
token_next text at kind s e is = layout-next text at kind s e (skip_layout at 0 (drop at text)) refl is
