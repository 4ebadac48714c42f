use Rattle.std.proofs.Common.{◌≡◌, List, ℕ, [], refl, sym, ◌∙◌, ap, subst, map, true}
use Rattle.std.specs.Str.{encode_utf8_all}
use Rattle.std.proofs.lemmas.Result.{IfOk-weaker}
use Rattle.clap.specs.Words.{App, app_of, fault_of, is_simple, is_simple_and_free, subcommand_of, subcommand_rows_of}
use Rattle.clap.specs.Kinds.{HasKind}
use Rattle.command_line.specs.CommandLine.{order, order_of, plt_app}
use Rattle.command_line.specs.Commands.{IsOrder}
use Rattle.command_line.proofs.CommandLemmas.{refused_words, taken_words}
use Rattle.command_line.proofs.command.read_order.Goals as goal

is_plain : is_simple plt_app ≡ true
is_plain = refl

is_free : is_simple_and_free plt_app ≡ true
is_free = refl

pub returns-in-Ok-clause-order : goal.returns-in-Ok-clause-order
returns-in-Ok-clause-order c =
    let texts : List (List ℕ) = map encode_utf8_all c.args.words.now in
    let app : app_of c.in_ok-syntax.syntax ≡ plt_app = c.in_ok-syntax.ensures in
    let taken : fault_of plt_app texts ≡ [] =
    subst (λ a. is_simple_and_free a ≡ true → fault_of a texts ≡ []) app c.in-Ok.ensures.kinds is_free in
    let rows : subcommand_rows_of c.in-Ok.matches ≡ subcommand_of plt_app texts =
    (c.in-Ok.ensures.matches (ap is_simple app ∙ is_plain)).1 ∙ ap (λ a. subcommand_of a texts) app in
    let is : order_of (subcommand_rows_of c.in-Ok.matches) ≡ order c.args.words.now =
    ap order_of rows ∙ sym (taken_words (fault_of plt_app texts) (order_of (subcommand_of plt_app texts)) taken) in
    IfOk-weaker c.subcommand_given.result _ _ (λ r h. subst (IsOrder r) is h) c.subcommand_given.ensures.order

pub returns-in-Ok-clause-bounds : goal.returns-in-Ok-clause-bounds
returns-in-Ok-clause-bounds c = c.subcommand_given.ensures.bounds

pub returns-clause-order : goal.returns-clause-order
returns-clause-order c =
    let texts : List (List ℕ) = map encode_utf8_all c.args.words.now in
    let app : app_of c.in_ok-syntax.syntax ≡ plt_app = c.in_ok-syntax.ensures in
    refused_words
    (fault_of plt_app texts)
    c.in-Err.e
    _
    (subst (λ a. is_simple_and_free a ≡ true → Kinds a texts) app c.in-Err.ensures.kinds is_free)
    (λ e. c.in_default.not-OutOfMemory (c.kind.ensures ∙ e))
  where
    Kinds : App → List (List ℕ) → Type 0
    Kinds a texts = HasKind (fault_of a texts) c.in-Err.e
