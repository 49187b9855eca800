-- Of which events the definitions say nothing, by what the events are about.
use Rattle.std.proofs.Common.{◌≡◌, ℕ, false, refl}
use Rattle.vm_base.specs.declared.ids.HostId.{HostId}
use Rattle.vm_base.specs.declared.ids.ObjectId.{ObjectId}
use Rattle.vm_model.specs.declared.event.Event.{Event}
use Rattle.vm_model.specs.declared.event.Event.TheVariants as event
use Rattle.vm_model.specs.declared.message.Channel.TheVariants.{Up}
use Rattle.vm_model.specs.declared.message.Message.{Message}
use Rattle.vm_model.specs.Kinds.{Accesses, Backings, Lines, Pages, Sendings, Takings, Tasks, about}
use Rattle.vm_model.specs.Summary.{is_dropped, is_line, is_loaded, is_stored}
use Rattle.vm_model.proofs.Unspoken.{is_copied_page, is_request, is_task_made, is_unlock, of_accesses, of_backings, of_lines, of_messages, of_pages, of_takings}
use Rattle.vm_model.proofs.Unspoken.{of_tasks}
use Rattle.vm_kernel.specs.Begun.{KernelSays}
use Rattle.vm_kernel.specs.Turns.{RunsNone}

-- an access that is run sends, or is about pages and accesses: of these all but drops, and all but ends without bytes
pub runs_none_elsewhere : (e : Event) → (about e ≡ Sendings → ⊥) → (about e ≡ Pages → ⊥) → (about e ≡ Accesses → ⊥) → RunsNone e ≡ Unit {0}
runs_none_elsewhere (event.Sent channel m) unsent no_page no_access = absurd (unsent refl)
runs_none_elsewhere (event.Zeroed host object page) unsent no_page no_access = absurd (no_page refl)
runs_none_elsewhere (event.Raised host lower lower_page upper upper_page) unsent no_page no_access = absurd (no_page refl)
runs_none_elsewhere (event.CopiedPage task page object object_page target) unsent no_page no_access = absurd (no_access refl)
runs_none_elsewhere (event.Loaded task object page value) unsent no_page no_access = absurd (no_access refl)
runs_none_elsewhere (event.Stored task object page at size value) unsent no_page no_access = absurd (no_access refl)
runs_none_elsewhere other unsent no_page no_access = refl

pub runs_none_of_pages : (e : Event) → about e ≡ Pages → is_dropped e ≡ false → RunsNone e ≡ ⊥
runs_none_of_pages =
    of_pages (λ e. is_dropped e ≡ false → RunsNone e ≡ ⊥)
    (λ host object page undropped. absurd (cc))
    (λ host object page undropped. refl)
    (λ host lower lower_page upper upper_page undropped. refl)

pub runs_none_of_accesses : (e : Event) → about e ≡ Accesses → is_loaded e ≡ false → is_stored e ≡ false → is_copied_page e ≡ false → RunsNone e ≡ Unit {0}
runs_none_of_accesses =
    of_accesses (λ e. is_loaded e ≡ false → is_stored e ≡ false → is_copied_page e ≡ false → RunsNone e ≡ Unit {0})
    (λ task object page value unloaded unstored uncopied. absurd (cc))
    (λ task object page at size value unloaded unstored uncopied. absurd (cc))
    (λ task page object object_page target unloaded unstored uncopied. absurd (cc))
    (λ task unloaded unstored uncopied. refl)
    (λ task object page unloaded unstored uncopied. refl)

-- of what is sent up, requests and unlocks
pub runs_none_of_messages : (host : HostId) (object : ObjectId) → (m : Message) → is_request m ≡ false → is_unlock m ≡ false
    → RunsNone (event.Sent (Up host object) m) ≡ Unit {0}
runs_none_of_messages host object =
    of_messages (λ m. is_request m ≡ false → is_unlock m ≡ false → RunsNone (event.Sent (Up host object) m) ≡ Unit {0})
    (λ control size apart other. refl)
    (λ control size apart other. refl)
    (λ control page access apart other. absurd (cc))
    (λ control page access apart other. absurd (cc))
    (λ control page dirty keep bytes apart other. refl)
    (λ control page count apart other. refl)
    (λ control apart other. refl)
    (λ cache strategy apart other. refl)
    (λ page lock precious bytes apart other. refl)
    (λ page apart other. refl)
    (λ page reason apart other. refl)
    (λ page count returns flush lock reply apart other. refl)
    (λ cache strategy reply apart other. refl)
    (λ reason apart other. refl)
    (λ control cache strategy apart other. refl)

-- a kernel says where it is by what it sends, and by tasks that it makes; it begins no step, and speaks for no backing
pub kernel_says_elsewhere : (h size : ℕ) (e : Event) → (about e ≡ Sendings → ⊥) → (about e ≡ Takings → ⊥) → (about e ≡ Lines → ⊥)
    → (about e ≡ Backings → ⊥) → (about e ≡ Tasks → ⊥) → KernelSays h size e ≡ Unit {0}
kernel_says_elsewhere h size (event.Sent channel m) unsent untaken no_line no_backing no_task = absurd (unsent refl)
kernel_says_elsewhere h size (event.Taken channel m) unsent untaken no_line no_backing no_task = absurd (untaken refl)
kernel_says_elsewhere h size (event.Line line) unsent untaken no_line no_backing no_task = absurd (no_line refl)
kernel_says_elsewhere h size (event.DeviceFailed who way object page) unsent untaken no_line no_backing no_task = absurd (no_backing refl)
kernel_says_elsewhere h size (event.NoSlot object page) unsent untaken no_line no_backing no_task = absurd (no_backing refl)
kernel_says_elsewhere h size (event.TaskMade task host) unsent untaken no_line no_backing no_task = absurd (no_task refl)
kernel_says_elsewhere h size other unsent untaken no_line no_backing no_task = refl

pub kernel_says_of_takings : (h size : ℕ) (e : Event) → about e ≡ Takings → KernelSays h size e ≡ ⊥
kernel_says_of_takings h size = of_takings (λ e. KernelSays h size e ≡ ⊥) (λ channel m. refl)

pub kernel_says_of_backings : (h size : ℕ) (e : Event) → about e ≡ Backings → KernelSays h size e ≡ ⊥
kernel_says_of_backings h size = of_backings (λ e. KernelSays h size e ≡ ⊥) (λ who way object page. refl) (λ object page. refl)

pub kernel_says_of_lines : (h size : ℕ) (e : Event) → about e ≡ Lines → is_line e ≡ false → KernelSays h size e ≡ Unit {0}
kernel_says_of_lines h size = of_lines (λ e. is_line e ≡ false → KernelSays h size e ≡ Unit {0}) (λ line unlined. absurd (cc)) (λ code unlined. refl)

pub kernel_says_of_tasks : (h size : ℕ) (e : Event) → about e ≡ Tasks → is_task_made e ≡ false → KernelSays h size e ≡ Unit {0}
kernel_says_of_tasks h size =
    of_tasks (λ e. is_task_made e ≡ false → KernelSays h size e ≡ Unit {0}) (λ task host unmade. absurd (cc)) (λ task unmade. refl)
