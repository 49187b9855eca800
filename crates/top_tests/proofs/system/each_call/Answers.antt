use Rattle.std.proofs.Common.{◌≡◌, refl, true, false}
use Rattle.vm_legal.specs.Outside.{Outside, Untold}
use Rattle.top_tests.proofs.Bare.{bare, fits_at_start, untold}
use Rattle.top_tests.proofs.system.each_call.Goals as goal

abbrev nothing_told : Outside
nothing_told = record { files = Untold; paging = false }

pub settle_all-answers-requires : goal.settle_all-answers-requires
settle_all-answers-requires g c =
    let system = c.in_ok-system.ensures in
    let header = c.in_ok-header.header in
    let none = c.in_ok-header.ensures.bare in
    let kept = system.kept nothing_told _ (λ told. absurd (let bad : false ≡ true = told in cc)) in (
      refl,
      (
        system.stands nothing_told,
        fits_at_start header nothing_told _ _ _ kept (system.files nothing_told _ (untold header nothing_told _ none))
            system.carried system.nothing,
      ),
    )
