-- What the kernels say, and what begins a step, leaves the pagers.
use Rattle.vm_system.proofs.Common.{AllFilesServe, AllInner, AllServe, Device, EachIn, EachOf, Event, FileTable, FilesCarry, Header, IsOther, List, MayHave}
use Rattle.vm_system.proofs.Common.{None, Option, SlotTable, Some, SomeKernelSays, Told, [], content_of, devices, home_of, home_stays, inl, inr, none-some}
use Rattle.vm_system.proofs.Common.{others, refl, sym, ℕ, ◌++◌, ◌∙◌, ◌∷◌, ◌≡◌}
use Rattle.vm_model.specs.declared.event.Event.TheVariants as event
use Rattle.pg_file.proofs.Carrying.{others_carry as file_carries}
use Rattle.pg_file.proofs.Standing.{others as file_others}
use Rattle.pg_file.specs.Stands.{IsOther as IsFileOther}

-- no pager has a part in an event
pub serve_other : (header : Header) (pagers : List SlotTable) (e : Event) (past : List Event) → ((h : ℕ) → IsOther header h e past)
    → AllServe header pagers past → AllServe header pagers (e ∷ past)
serve_other header pagers e past other serve =
    record { numbered = serve.numbered; stand = λ h pager at. others header h pager e past (other h) (serve.stand h pager at) }

pub files_other : (header : Header) (files : List FileTable) (e : Event) (past : List Event) → ((object : ℕ) → IsFileOther object e)
    → AllFilesServe header files past → AllFilesServe header files (e ∷ past)
files_other header files e past other serve =
    record { count = serve.count; stand = λ object pager file at. file_others header object pager e past (other object) (serve.stand object pager file at) }

-- who may have a file's pages now might have them before
may_before : (host object : ℕ) (e : Event) (past : List Event) → MayHave host object (e ∷ past) → MayHave host object past
may_before host object e past may = by (home_of object past) refl may
  where
    by : (was : Option ℕ) → home_of object past ≡ was → MayHave host object (e ∷ past) → MayHave host object past
    by None is may = inl is
    by (Some g) is (inl none) = absurd (none-some g (sym none ∙ home_stays object g e past is))
    by (Some g) is (inr here) = inr (is ∙ sym (home_stays object g e past is) ∙ here)

pub carry_other : (header : Header) (start areas : List ℕ → Told) (e : Event) (past : List Event) → ((object : ℕ) → IsFileOther object e)
    → FilesCarry header start areas past → FilesCarry header start areas (e ∷ past)
carry_other header start areas e past other carry = record {
  kept = λ object was file at.
      let kept = carry.kept object was file at in
      (kept.0, kept.1, λ host may. file_carries header.size host object was kept.0 e past (other object) (kept.2 host (may_before host object e past may)));
  others = carry.others;
}

-- the event is no taking, and no failure of a pager
abbrev pub IsSpared : Event → Type 0
IsSpared (event.Taken channel m) = ⊥
IsSpared (event.DeviceFailed who way object page) = ⊥
IsSpared (event.NoSlot object page) = ⊥
IsSpared other = Unit {0}

-- no pager has a part in it

other_spared : (header : Header) (h : ℕ) (e : Event) (past : List Event) → IsSpared e → IsOther header h e past
other_spared header h (event.Taken channel m) past spared = absurd spared
other_spared header h (event.DeviceFailed who way object page) past spared = absurd spared
other_spared header h (event.NoSlot object page) past spared = absurd spared
other_spared header h other past spared = tt

file_spared : (object : ℕ) (e : Event) → IsSpared e → IsFileOther object e
file_spared object (event.Taken channel m) spared = absurd spared
file_spared object (event.DeviceFailed who way about page) spared = absurd spared
file_spared object (event.NoSlot about page) spared = absurd spared
file_spared object other spared = tt

content_one : (header : Header) (h : ℕ) (e : Event) (past : List Event) → IsSpared e → content_of header h (e ∷ past) ≡ content_of header h past
content_one header h (event.Taken channel m) past spared = absurd spared
content_one header h (event.DeviceFailed who way object page) past spared = absurd spared
content_one header h (event.NoSlot object page) past spared = absurd spared
content_one header h other past spared = refl

devices_one : (who : Device) (e : Event) (past : List Event) → IsSpared e → devices who (e ∷ past) ≡ devices who past
devices_one who (event.DeviceFailed by way object page) past spared = absurd spared
devices_one who other past spared = refl

-- nor in several

pub serve_spared : (header : Header) (pagers : List SlotTable) (events past : List Event) → EachOf IsSpared events → AllServe header pagers past
    → AllServe header pagers (events ++ past)
serve_spared header pagers [] past spared serve = serve
serve_spared header pagers (e ∷ events) past spared serve =
    serve_other header pagers e (events ++ past) (λ h. other_spared header h e (events ++ past) spared.0)
    (serve_spared header pagers events past spared.1 serve)

pub files_spared : (header : Header) (files : List FileTable) (events past : List Event) → EachOf IsSpared events → AllFilesServe header files past
    → AllFilesServe header files (events ++ past)
files_spared header files [] past spared serve = serve
files_spared header files (e ∷ events) past spared serve =
    files_other header files e (events ++ past) (λ object. file_spared object e spared.0) (files_spared header files events past spared.1 serve)

pub carry_spared : (header : Header) (start areas : List ℕ → Told) (events past : List Event) → EachOf IsSpared events → FilesCarry header start areas past
    → FilesCarry header start areas (events ++ past)
carry_spared header start areas [] past spared carry = carry
carry_spared header start areas (e ∷ events) past spared carry =
    carry_other header start areas e (events ++ past) (λ object. file_spared object e spared.0) (carry_spared header start areas events past spared.1 carry)

pub content_spared : (header : Header) (h : ℕ) (events past : List Event) → EachOf IsSpared events
    → content_of header h (events ++ past) ≡ content_of header h past
content_spared header h [] past spared = refl
content_spared header h (e ∷ events) past spared = content_one header h e (events ++ past) spared.0 ∙ content_spared header h events past spared.1

pub devices_spared : (who : Device) (events past : List Event) → EachOf IsSpared events → devices who (events ++ past) ≡ devices who past
devices_spared who [] past spared = refl
devices_spared who (e ∷ events) past spared = devices_one who e (events ++ past) spared.0 ∙ devices_spared who events past spared.1

-- so it is with what the kernels say

said_one : (header : Header) (e : Event) (past : List Event) → SomeKernelSays header e past → IsSpared e
said_one header (event.Taken channel m) past said = absurd said.says
said_one header (event.DeviceFailed who way object page) past said = absurd said.says
said_one header (event.NoSlot object page) past said = absurd said.says
said_one header other past said = tt

pub spared_said : (header : Header) (events past : List Event) → EachIn (SomeKernelSays header) events past → EachOf IsSpared events
spared_said header [] past said = tt
spared_said header (e ∷ events) past said = (said_one header e (events ++ past) said.0, spared_said header events past said.1)

pub serve_said : (header : Header) (pagers : List SlotTable) (events past : List Event) → EachIn (SomeKernelSays header) events past → AllInner events
    → AllServe header pagers past → AllServe header pagers (events ++ past)
serve_said header pagers events past said inner serve = serve_spared header pagers events past (spared_said header events past said) serve

pub content_stays : (header : Header) (h : ℕ) (events past : List Event) → EachIn (SomeKernelSays header) events past → AllInner events
    → content_of header h (events ++ past) ≡ content_of header h past
content_stays header h events past said inner = content_spared header h events past (spared_said header events past said)

-- and no backing fails in it
pub devices_said : (who : Device) (header : Header) (events past : List Event) → EachIn (SomeKernelSays header) events past
    → devices who (events ++ past) ≡ devices who past
devices_said who header events past said = devices_spared who events past (spared_said header events past said)
