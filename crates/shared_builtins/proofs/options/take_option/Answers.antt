use Rattle.std.proofs.Common.{map, IsSome, sym, ap, subst, ◌∙◌}
use Rattle.std.specs.List.{All}
use Rattle.std.proofs.lemmas.List.Elements.{All-push}
use Rattle.world_api.specs.Texts.{text_of}
use Rattle.shared_builtins.specs.Options.{with_aliases}
use Rattle.shared_builtins.proofs.Opting.{more_aliases, pushed_text}
use Rattle.shared_builtins.proofs.options.take_option.Goals as goal

pub returns-in_ok-push-in-Alias-clause-took : goal.returns-in_ok-push-in-Alias-clause-took
returns-in_ok-push-in-Alias-clause-took c m rest n held =
    let xs = map (text_of m) c.args.aliases.now.items in
    ap (with_aliases xs) (c.in-Alias.ensures.option m n held rest)
    ∙ more_aliases xs (map (text_of m) c.push.new.self.items) (text_of m c.in-Alias.name) rest
    (pushed_text m c.args.aliases.now.items c.push.new.self.items c.in-Alias.name c.in_ok-push-in-Alias.ensures.items)

pub returns-in_ok-push-in-Alias-clause-held : goal.returns-in_ok-push-in-Alias-clause-held
returns-in_ok-push-in-Alias-clause-held c m n held all = (
  subst (All (λ a. IsSome (m a))) (sym c.in_ok-push-in-Alias.ensures.items)
      (All-push (λ a. IsSome (m a)) c.args.aliases.now.items c.in-Alias.name all (c.in-Alias.ensures.held m n held)),
  tt,
)

pub returns-in-Plain-clause-took : goal.returns-in-Plain-clause-took
returns-in-Plain-clause-took c m rest n held = ap (with_aliases (map (text_of m) c.args.aliases.now.items)) (c.in-Plain.ensures.option m n held rest)

pub returns-in-Plain-clause-held : goal.returns-in-Plain-clause-held
returns-in-Plain-clause-held c m n held all = (all, tt)

pub returns-in-Wrong-clause-took : goal.returns-in-Wrong-clause-took
returns-in-Wrong-clause-took c m rest n held = ap (with_aliases (map (text_of m) c.args.aliases.now.items)) (c.in-Wrong.ensures.option m n held rest)

pub returns-in-Wrong-clause-held : goal.returns-in-Wrong-clause-held
returns-in-Wrong-clause-held c m n held all = (all, c.in-Wrong.ensures.held m n held)
