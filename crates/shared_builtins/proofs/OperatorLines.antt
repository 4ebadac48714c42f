-- The lines of operators.
use Rattle.std.proofs.Common.{◌≡◌, ℕ, List, [], ◌∷◌, map, IsSome, codes, pos, refl, sym, ap₂, ◌∙◌}
use Rattle.std.specs.List.{All}
use Rattle.std.proofs.lemmas.List.Elements.{All-cons, All-head, All-nil, All-tail}
use Rattle.pl_term.specs.Tree.{int, atom, none, more}
use Rattle.pl_model.specs.declared.operators.Kind.{Kind}
use Rattle.pl_model.specs.declared.operators.Kind.TheVariants.{Xfx, Xfy, Yfx, Fy, Fx, Xf, Yf}
use Rattle.pl_model.specs.BuiltinRows.{plain_answer}
use Rattle.pl_model.specs.SharedBuiltins.{operator_row, specifier_name}
use Rattle.atom_api.specs.Names.{Names, FixedStand}
use Rattle.builtin_rows.proofs.Balls.{fixed_held}
use Rattle.term_store.specs.Heap.{atom_name}
use Rattle.world_api.specs.declared.reply.Operator.{Operator}
use Rattle.world_api.specs.Replies.{operator_in}
use Rattle.world_api.specs.Texts as worlds
use Rattle.world_builtins.specs.Spelling.{text_of}
use Rattle.iso_search.specs.declared.told.Line.{Line}
use Rattle.iso_search.specs.declared.told.Line.TheVariants as lines
use Rattle.iso_search.specs.Told.{line_answer}
use Rattle.shared_builtins.specs.Operators.{name_of}
use Rattle.shared_builtins.specs.Replies.{IsLineHeld}
use Rattle.shared_builtins.proofs.FixedNames.{fx_is, fy_is, xf_is, xfx_is, xfy_is, yf_is, yfx_is}
use Rattle.shared_builtins.proofs.PairTerms.{fixed_read}
use Rattle.shared_builtins.proofs.Reading.{one_text, text_is}

abbrev pub operator_line : Operator → Line
operator_line o = lines.Operator o.priority (name_of o.kind) o.name

module _ (m : Names) (stands : FixedStand m) where
  specifier_read : (k : Kind) → text_of m (atom_name (name_of k)) ≡ specifier_name k
  specifier_read Xfx = fixed_read m stands 187 (codes "xfx") xfx_is
  specifier_read Xfy = fixed_read m stands 188 (codes "xfy") xfy_is
  specifier_read Yfx = fixed_read m stands 190 (codes "yfx") yfx_is
  specifier_read Fy = fixed_read m stands 96 (codes "fy") fy_is
  specifier_read Fx = fixed_read m stands 95 (codes "fx") fx_is
  specifier_read Xf = fixed_read m stands 186 (codes "xf") xf_is
  specifier_read Yf = fixed_read m stands 189 (codes "yf") yf_is

  specifier_held : (k : Kind) → IsSome (m (name_of k))
  specifier_held Xfx = fixed_held m stands 187 (codes "xfx") xfx_is
  specifier_held Xfy = fixed_held m stands 188 (codes "xfy") xfy_is
  specifier_held Yfx = fixed_held m stands 190 (codes "yfx") yfx_is
  specifier_held Fy = fixed_held m stands 96 (codes "fy") fy_is
  specifier_held Fx = fixed_held m stands 95 (codes "fx") fx_is
  specifier_held Xf = fixed_held m stands 186 (codes "xf") xf_is
  specifier_held Yf = fixed_held m stands 189 (codes "yf") yf_is

  pub operators_told : (os : List Operator) → map operator_row (map (operator_in (worlds.text_of m)) os) ≡ map (line_answer m) (map operator_line os)
  operators_told [] = refl
  operators_told (o ∷ os) =
      ap₂ (λ a rows. a ∷ rows)
      (ap₂ (λ k f. plain_answer (more (int (pos o.priority)) (more (atom k) (more (atom f) none)))) (sym (specifier_read o.kind)) (one_text m o.name ∙ text_is m (atom_name o.name)))
      (operators_told os)

  pub operators_held : (os : List Operator) → All (λ a. IsSome (m a)) (map (λ (o : Operator). o.name) os) → All (IsLineHeld m) (map operator_line os)
  operators_held [] h = All-nil (IsLineHeld m)
  operators_held (o ∷ os) h =
      let P : ℕ → Type 0 = λ a. IsSome (m a) in
      let rest = map (λ (o : Operator). o.name) os in
      All-cons (IsLineHeld m) (operator_line o) (map operator_line os) (specifier_held o.kind, All-head P o.name rest h) (operators_held os (All-tail P o.name rest h))
