-- Headers that say the same.
use Rattle.std.specs.Prelude.{◌≡◌}
use Rattle.vm_model.specs.declared.script.Header.{Header}

-- they agree in all that they say; lists may have room for more
pub record SayTheSame (a b : Header) : Type 0 where
  pub size : a.size ≡ b.size
  pub slots : a.slots ≡ b.slots
  pub frames : a.frames.items ≡ b.frames.items
  pub objects : a.objects.items ≡ b.objects.items
