-- All that the proofs of this crate name from below.
pub use Rattle.std.proofs.Common.{Bool, List, None, Option, Some, [], ap, append-nil, append_assoc, arith, false, get_or, inl, inr, length, length-append, refl}
pub use Rattle.std.proofs.Common.{subst, suc, sym, true, zero, ℕ, ◌&&◌, ◌++◌, ◌+◌, ◌<◌, ◌==◌, ◌∙◌, ◌∷◌, ◌≡◌, ◌≢◌, ◌≤◌}
pub use Rattle.std.proofs.Math.ListN.{length-set, set}
pub use Rattle.std.proofs.Math.Numerals.{add-one}
pub use Rattle.std.proofs.lemmas.Bool.Decides.{eqb_tells, nat_tests}
pub use Rattle.std.proofs.lemmas.List.{length-reverse}
pub use Rattle.std.proofs.lemmas.Option.{same_Some, slice_get_read, slice_get_within}
pub use Rattle.std.specs.Prelude.{IfSome, MatchOption, if◌then◌else◌, is_some, nat_lt, not, reverse, slice_get, ◌⊎◌, ◌||◌}
pub use Rattle.vm_abroad.proofs.Sounds.{sound_start}
pub use Rattle.vm_abroad.proofs.Whose.{abroad_of_own, own_of_home}
pub use Rattle.vm_abroad.specs.Sound.{IsAbroad}
pub use Rattle.vm_abroad.specs.Whose.{IsNewTask, IsOfHost}
pub use Rattle.vm_base.specs.declared.code.Code.{Code}
pub use Rattle.vm_base.specs.declared.ids.HostId.{HostId}
pub use Rattle.vm_base.specs.declared.ids.ObjectId.{ObjectId}
pub use Rattle.vm_base.specs.declared.ids.ObjectKind.{ObjectKind}
pub use Rattle.vm_base.specs.declared.ids.ObjectKind.TheVariants.{Temp}
pub use Rattle.vm_kernel.proofs.abroad.OthersEvents.{common_of, frames_abroad, nobodys_abroad, nobodys_shut, of_host, prompt_abroad, queue_abroad, rests_abroad}
pub use Rattle.vm_kernel.proofs.abroad.OthersEvents.{sound_caused, sound_more, waits_here}
pub use Rattle.vm_kernel.proofs.steps.StillDone.{done_more}
pub use Rattle.vm_kernel.proofs.controls.WaitersFail.{paid_more}
pub use Rattle.vm_kernel.proofs.steps.EventsGrow.{paid_of, suffices}
pub use Rattle.vm_kernel.specs.Abroad.{IsCommon, IsNobodys}
pub use Rattle.vm_kernel.specs.Begun.{CreatesHere, IsLaundered, IsLined, IsMine, KernelSays, LegalEvents, Passed, Ran, Served, SomeKernelSays, Starts, acts_on}
pub use Rattle.vm_kernel.specs.Built.{kernel_runs}
pub use Rattle.vm_kernel.specs.Matches.{IsRanged, Rests, first_ids, host_id}
pub use Rattle.vm_kernel.proofs.room.OtherRoom.{rests_roomier}
pub use Rattle.vm_kernel.specs.declared.breadth.Breadth.{Breadth}
pub use Rattle.vm_kernel.specs.Rooms.{CanServeOn, IsReady as IsReadyOn, MayServe, ServeRoom, breadth_of, dues, front, full_dues, has_queue, making, most}
pub use Rattle.vm_kernel.specs.Rooms.{own_dues, rooms_of, to_run, with_rooms, with_rooms_of}
pub use Rattle.vm_kernel.specs.Serving.{HasQueue}
pub use Rattle.vm_kernel.specs.Taking.{IsAbsencePaid, IsChangePaid, IsErrorPaid, IsLockPaid}
pub use Rattle.vm_legal.specs.InTurn.{EndsAll, WaitsAt, IsDoneInTurn, AllInTurn, LicensedInTurn}
pub use Rattle.vm_kernel.specs.declared.parts.Parts.{Parts}
pub use Rattle.vm_legal.proofs.Inside.{absence_more, before_more, error_more, since_more}
pub use Rattle.vm_legal.proofs.Paying.{attributes_more, lock_more, locked_more}
pub use Rattle.vm_legal.proofs.Stretched.{each_both, inner_both, licensed_both, moments_both, of_both}
pub use Rattle.vm_legal.specs.Bytes.{OwnBytes}
pub use Rattle.vm_legal.specs.Follows.{IsConsequence}
pub use Rattle.vm_legal.specs.Frames.{FramesSuffice, Suffice, frames_free, frames_used}
pub use Rattle.vm_legal.specs.Homes.{EntersNext, IsOnlyOfHost, gives_frame, is_home}
pub use Rattle.vm_legal.specs.Licences.{HasCause, IsBehind, PagerSends, ReturnsOn, Says, owed, zeroes}
pub use Rattle.vm_legal.specs.Outside.{Outside, is_file, is_file_kept, is_file_kind, kind_in, kind_of}
pub use Rattle.vm_legal.specs.Prompt.{PromptAt}
pub use Rattle.vm_legal.specs.Refusal.{is_elsewhere, refusal}
pub use Rattle.vm_legal.specs.Steps.{before_step, fails_task, just_begun}
pub use Rattle.vm_legal.specs.Stretches.{AllInner, EachIn, EachOf, MomentsIn}
pub use Rattle.vm_legal.specs.Used.{in_use}
pub use Rattle.vm_maps.specs.Maps.{entries_in}
pub use Rattle.vm_model.specs.Homes.{copying_host, first_of as first_home, home_of}
pub use Rattle.vm_model.specs.Local.{is_on}
pub use Rattle.vm_model.specs.Named.{named}
pub use Rattle.vm_model.specs.Ranges.{InRange}
pub use Rattle.vm_model.specs.Regions.{backing_of, next_object, next_region, region_of}
pub use Rattle.vm_model.specs.Tasks.{host_of}
pub use Rattle.vm_model.specs.declared.command.Command.{Command}
pub use Rattle.vm_model.specs.declared.event.Event.{Event}
pub use Rattle.vm_model.specs.declared.message.Channel.{Channel}
pub use Rattle.vm_model.specs.declared.message.Channel.TheVariants.{Down, Up}
pub use Rattle.vm_model.specs.declared.message.Message.{Message}
pub use Rattle.vm_model.specs.declared.script.Header.{Header}
pub use Rattle.vm_objects.specs.Objects.{object_at}
pub use Rattle.vm_objects.specs.declared.row.ObjectRow.{ObjectRow}
pub use Rattle.vm_shadow.specs.declared.ids.Ids.{Ids}
pub use native.Mathlib.Decide.{ℕ_discrete}
pub use Rattle.vm_frames.specs.Frames.{free}
pub use Rattle.vm_waits.specs.Waits.{is_again, is_frame, one, queued}
pub use Rattle.vm_waits.specs.declared.waiting.On.{On}
pub use Rattle.vm_waits.specs.declared.waiting.Waiting.{Waiting}
pub use Rattle.vm_hosts.specs.Hosts.{AllQueued, AllRest, AreNew, CanServe, HostTable, IsReady, acts_in, knows_file, most_from, most_on, sum_of_dues, takes_part}
pub use Rattle.vm_hosts.specs.Steps.{ActsOn, Began, EventsFollow, Heads, PagerStep, PartInTurn, Stretch, Went}
pub use Rattle.vm_legal.specs.Serving.{EndsInTurn, ServeInTurn}
pub use Rattle.vm_legal.specs.Serving.ServeInTurn.{NextServes, NoneServed}
