-- A token lies after the place where it was looked for, and within the text.
use Rattle.std.proofs.Common.{◌≡◌, ℕ, ◌+◌, ◌≤◌, ◌==◌, List, length, drop, Result, Ok, Err, refl, arith}
use Rattle.std.proofs.lemmas.List.{length-drop}
use Rattle.pl_model.specs.Tokens.{skip_layout}
use Rattle.pl_model.specs.LexicalTokens.{token_front, placed, from_start, token, token_at}
use Rattle.pl_model.specs.declared.syntax.SyntaxFault.{SyntaxFault}
use Rattle.pl_model.specs.declared.lexical.TokenKind.{TokenKind}
use Rattle.pl_model.specs.declared.lexical.Reading.{Reading}
use Rattle.pl_model.specs.declared.lexical.Reading.TheVariants.{Token, Fault, Nothing}
use Rattle.pl_model.proofs.LexicalPlaces.{ReadsWithin, token_front-within}
use Rattle.pl_model.proofs.TokenPlaces.{Follows, skip_layout-forward}

placed-follows : (text : List ℕ) (at start : ℕ) (x : Reading) (kind : TokenKind) (s e : ℕ) → at ≤ start
    → ReadsWithin (length (drop start text)) x → placed start x ≡ token kind s e → Follows text at s e
placed-follows text at start (Token k size) kind s e forward within is =
    let begins : s ≡ start = cc in
    let ends : e ≡ start + size = cc in
    record {
      begins = omega arith;
      ends = omega (arith, within.0);
      within = omega (arith, within.0, within.1, length-drop start text);
    }
placed-follows text at start (Fault k n) kind s e forward within is = cc
placed-follows text at start Nothing kind s e forward within is = cc

from_start-follows : (text : List ℕ) (at : ℕ) (r : Result ℕ SyntaxFault) (kind : TokenKind) (s e : ℕ)
    → skip_layout at 0 (drop at text) ≡ r → from_start text at r ≡ token kind s e → Follows text at s e
from_start-follows text at (Err f) kind s e from is = cc
from_start-follows text at (Ok start) kind s e from is =
    placed-follows text at start (token_front (start == at) (drop start text)) kind s e (skip_layout-forward at 0 (drop at text) start from)
    (token_front-within (start == at) (drop start text)) is

pub token_at-follows : (text : List ℕ) (at : ℕ) (kind : TokenKind) (s e : ℕ) → token_at text at ≡ token kind s e → Follows text at s e
unfolding token_at
token_at-follows text at kind s e is = from_start-follows text at (skip_layout at 0 (drop at text)) kind s e refl is
