-- Which commands a kernel runs.
use Rattle.std.specs.Prelude.{Bool, true, false}
use Rattle.vm_model.specs.declared.command.Command.{Command}
use Rattle.vm_model.specs.declared.command.Command.TheVariants as command

-- the commands that are built
abbrev pub kernel_runs : Command → Bool
kernel_runs (command.Task task host) = true
kernel_runs (command.Fork task child) = true
kernel_runs (command.Copy task address bytes target to) = true
kernel_runs (command.Exit task) = true
kernel_runs (command.Map task address bytes object offset) = true
kernel_runs (command.Allocate task address bytes) = true
kernel_runs (command.Deallocate task address bytes) = true
kernel_runs (command.Protect task address bytes prot) = true
kernel_runs (command.Inherit task address bytes inherit) = true
kernel_runs (command.Load task address size) = true
kernel_runs (command.Store task address size value) = true
kernel_runs (command.Pageout host count) = true
kernel_runs (command.Wire host count) = true
kernel_runs (command.Unwire host count) = true
kernel_runs other = false

-- the command changes a task's entries
abbrev pub changes_entries : Command → Bool
changes_entries (command.Allocate task address bytes) = true
changes_entries (command.Deallocate task address bytes) = true
changes_entries (command.Protect task address bytes prot) = true
changes_entries (command.Inherit task address bytes inherit) = true
changes_entries other = false
