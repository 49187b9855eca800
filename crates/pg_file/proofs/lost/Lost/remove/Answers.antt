use Rattle.std.proofs.Common.{rules}
use Rattle.std.proofs.lemmas.Fn.{filter_same}
use Rattle.pg_file.proofs.Pages.{is_apart, taken_out}
use Rattle.pg_file.proofs.lost.Lost.remove.Goals as goal

pub returns : goal.returns
returns c =
    let left = filter_same _ (is_apart c.args.page.0) _ (λ x b f' h. search rules) c.self.inside.pages.items _ c.retain.ensures.filtered in
    taken_out c.args.page.0 _ c.self.inside.pages.items c.retain.new.self.items c.args.self.now c.self.view_is left
