-- All that the proofs of this crate name from below.
pub use Rattle.pg_answers.specs.Answers.{AnswerHasCause, IsToPager, ReturnsWhole, TellsFault, error, sent_to, supply}
pub use Rattle.pg_default.proofs.Carrying.{carries}
pub use Rattle.pg_default.proofs.Causes.{causes}
pub use Rattle.pg_default.proofs.Debts.{paid}
pub use Rattle.pg_default.proofs.Others.{empty, others, others_carry}
pub use Rattle.pg_default.proofs.Standing.{stands, start}
pub use Rattle.pg_default.specs.Answers.{LeavesAreas, PagerAnswer, RequestAnswer, SuppliesStored, after_message, became, device_failed, told_of}
pub use Rattle.pg_default.specs.Stands.{IsApart, IsOther, PagerServes, PagerStands, content_of, is_ended, is_heard_elsewhere, taking}
pub use Rattle.pg_file.specs.Answers.{CleanEvents, FileAnswer, LeavesFile, TellsPage, clean_request}
pub use Rattle.pg_file.specs.Files.{FileTable, has_lost}
pub use Rattle.pg_file.specs.Stands.{AnswersKept, CarriesFile, FileKept, IsKnownAs, IsStartTold, name_of}
pub use Rattle.pg_file.specs.declared.pager.KnownControl.{KnownControl}
pub use Rattle.pg_slots.specs.Contents.{CarriesContent, Content, IsAreaTold, PutTold, SlotsFit, area_name}
pub use Rattle.pg_slots.specs.Slots.{KeepsShape, PutEffects, SlotTable, held_at, held_slot, slot_in_table}
pub use Rattle.pg_slots.specs.declared.answers.Put.{Put}
pub use Rattle.pg_slots.specs.declared.slot_row.Held.{Held}
pub use Rattle.sms_server.specs.Answers.{AreServerWords, IsServerWord, IsToServer, ServerAnswer}
pub use Rattle.sms_server.specs.Stands.{MeetsProtocol, ServerServes, ServerStands}
pub use Rattle.sms_server.specs.Table.{ServerTable}
pub use Rattle.std.proofs.Common.{Bool, Err, IsErrOf, List, MatchOption, None, Ok, Option, Some, [], ap, append_assoc, arith, cond, false, if◌then◌else◌, inl}
pub use Rattle.std.proofs.Common.{inr, length, length-append, nat_le, not, position, refl, rules, subst, suc, sym, take, true, zero, ℕ, ◌++◌, ◌+◌, ◌<◌, ◌∙◌}
pub use Rattle.std.proofs.Common.{◌∷◌, ◌≡◌, ◌≤◌, ◌⊎◌}
pub use Rattle.std.proofs.Math.ListN.{length-set, set}
pub use Rattle.std.proofs.lemmas.Bool.{false≢true, or_left}
pub use Rattle.std.proofs.lemmas.Bool.Decides.{nat_tests}
pub use Rattle.std.proofs.lemmas.List.{append-nil}
pub use Rattle.std.proofs.lemmas.Option.{none-some, same_Some, slice_get-get_or, slice_get_within}
pub use Rattle.std.proofs.lemmas.Result.{on_err_weaker, on_ok_weaker}
pub use Rattle.std.specs.List.{AllByRecursion, list_any, position_or_len}
pub use Rattle.std.specs.Prelude.{IfNone, IfSome, IsSome, OnErr, OnOk, Result, get_or, is_none, is_some, nat_lt, option_map, reverse, slice_get, ◌&&◌, ◌/◌}
pub use Rattle.std.specs.Prelude.{◌==◌, ◌||◌, ◌≢◌, IfOk}
pub use Rattle.vm_abroad.proofs.Home.{home_stays, homes_next, homes_start, homes_stay, object_stays}
pub use Rattle.vm_abroad.specs.Home.{HaveHomes}
pub use Rattle.vm_base.specs.Buffers.{BufferStore}
pub use Rattle.vm_base.specs.Entries.{entry_at, is_range, meets_range, most_entries}
pub use Rattle.vm_base.specs.Listing.{Listed}
pub use Rattle.vm_base.specs.declared.code.Code.{Code}
pub use Rattle.vm_base.specs.declared.entry.Entry.{Entry}
pub use Rattle.vm_base.specs.declared.ids.ChannelId.{ChannelId}
pub use Rattle.vm_base.specs.declared.ids.HostId.{HostId}
pub use Rattle.vm_base.specs.declared.ids.ObjectId.{ObjectId}
pub use Rattle.vm_base.specs.declared.ids.PageNo.{PageNo}
pub use Rattle.vm_flat.proofs.Loads.{answers}
pub use Rattle.vm_hosts.proofs.Nobodys.{MakesNoControl, all_lined, all_nobodys, all_refused, queued_lined, queued_refused}
pub use Rattle.vm_hosts.proofs.Stretches.{stretch_none}
pub use Rattle.vm_hosts.proofs.Tables.{all_suffice, common_all}
pub use Rattle.vm_hosts.specs.Hosts.{AllQueued, AllRest, HostTable, IsReady}
pub use Rattle.vm_kernel.specs.declared.breadth.Breadth.{Breadth}
pub use Rattle.vm_hosts.specs.Steps.{Began, Going, HostsPart, Step, Stretch, Went}
pub use Rattle.vm_kernel.proofs.steps.EventsGrow.{paid_of}
pub use Rattle.vm_kernel.specs.Abroad.{IsNobodys}
pub use Rattle.vm_kernel.specs.Begun.{CreatesHere, IsLined, KernelSays, SomeKernelSays}
pub use Rattle.vm_kernel.specs.Matches.{IsRanged, host_id}
pub use Rattle.vm_kernel.specs.Taking.{IsAbsencePaid, IsChangePaid, IsErrorPaid, IsLockPaid, IsWord}
pub use Rattle.vm_legal.specs.InTurn.{EndsAll, FollowsInTurn, FollowsSoFarInTurn, IsDoneInTurn, IsGroupInTurn, IsRunInTurn, IsWholeInTurn, IsWholeSoFarInTurn}
pub use Rattle.vm_legal.specs.InTurn.{AllInTurn, LicensedInTurn}
pub use Rattle.vm_legal.proofs.Groups.{open_of, so_far}
pub use Rattle.vm_legal.proofs.Inside.{before_more, taken_more, takings_more}
pub use Rattle.vm_legal.proofs.Locks.{no_request}
pub use Rattle.vm_legal.proofs.Paying.{lock_more, paid_more}
pub use Rattle.vm_legal.proofs.Stretched.{each_both, each_whole, inner_both, licensed_both, licensed_front, moment_last, moments_both, moments_whole, of_both}
pub use Rattle.vm_legal.proofs.Stretched.{steps_whole}
pub use Rattle.vm_legal.specs.Accesses.{Comes, Copies, Elsewhere, HasPlace, Nowhere, Pushes, Raises, Waits, WaitsUnlocked, WantsFrame, page_of}
pub use Rattle.vm_legal.specs.Bytes.{CopiesCurrent, FlatBytes, LoadsCurrent, OwnBytes}
pub use Rattle.vm_legal.specs.Debts.{IsPaid}
pub use Rattle.vm_legal.specs.Follows.{IsConsequence, IsDoneSoFar, clean_head, head, take_head}
pub use Rattle.vm_legal.specs.Frames.{FramesSuffice, Gives, Suffice, change_where, frames_after, frames_held, frames_used, returns_out, taken_down_change}
pub use Rattle.vm_legal.specs.Frames.{taken_up_change}
pub use Rattle.vm_legal.specs.Homes.{gives_frame}
pub use Rattle.vm_legal.specs.Legal.{HasOneWriter, Holds, IsAtRest, CanonicalFor}
pub use Rattle.vm_legal.specs.Licences.{HasCause, MaySendUp, MayTake, ReturnsOn, is_paged, lock_taken, owed, tells, up}
pub use Rattle.vm_legal.specs.Outside.{NoneIsTemporary, Outside, is_file, is_shared, is_wild, kind_of}
pub use Rattle.vm_legal.specs.Pagers.{Known, known_after, known_below, known_control, last_return, or_known}
pub use Rattle.vm_legal.specs.Prompt.{AReady, AllServed, AnAnswer, AnUnlock, AtPlace, Awaits, AwaitsPage, ForPush, HostIsFull, IsExhausted, IsSource}
pub use Rattle.vm_legal.specs.Prompt.{NoneInVain, Prompt, WaitsForPager}
pub use Rattle.vm_legal.specs.Pushes.{OwesPush}
pub use Rattle.vm_legal.specs.Refusal.{acting, code_where, copy_refusal, has_copy_mark, is_copy_full, is_elsewhere, is_empty, is_fork_full, is_full, refusal}
pub use Rattle.vm_legal.specs.Steps.{Letter, before_step, taken_letter, takings}
pub use Rattle.vm_legal.specs.Stretches.{AllInner, EachIn, EachOf, IsInner, MomentsIn}
pub use Rattle.vm_legal.specs.Undelivered.{channel_of_first, is_made, is_of_control, makes, oldest_channel, undelivered, without_first}
pub use Rattle.vm_model.specs.Channels.{is_channel, queue}
pub use Rattle.vm_model.specs.Controls.{is_control, last_control, live_control, without_control}
pub use Rattle.vm_model.specs.Coherence.{PageLegal}
pub use Rattle.vm_model.specs.Copies.{HasPageOf}
pub use Rattle.vm_model.specs.Homes.{home_of, object_home}
pub use Rattle.vm_model.specs.Limits.{most_events}
pub use Rattle.vm_model.specs.Local.{local}
pub use Rattle.vm_model.specs.Moments.{BeforeSteps, EachEvent, EachMoment, before_last_line}
pub use Rattle.vm_model.specs.Named.{declared_pages, named}
pub use Rattle.vm_model.specs.PagePart.{page_part}
pub use Rattle.vm_model.specs.Regions.{marked_below, marked_regions, next_object, next_region, region_of}
pub use Rattle.vm_model.specs.Server.{first}
pub use Rattle.vm_model.specs.Side.{rest}
pub use Rattle.vm_model.specs.Tasks.{copies, copies_from, entries_of, host_of, is_copied, new_marks}
pub use Rattle.vm_model.specs.Words.{up_word}
pub use Rattle.vm_model.specs.Waiting.{Access, is_store, waiting}
pub use Rattle.vm_model.specs.contracts.message.ChannelPartialEq.TheImpl.{eq-value}
pub use Rattle.vm_model.specs.declared.command.Command.{Command}
pub use Rattle.vm_model.specs.declared.command.Numbered.{Numbered}
pub use Rattle.vm_model.specs.declared.event.Device.{Device}
pub use Rattle.vm_model.specs.declared.event.Event.{Event}
pub use Rattle.vm_model.specs.declared.event.Way.TheVariants.{Read, Write}
pub use Rattle.vm_model.specs.declared.message.Channel.{Channel}
pub use Rattle.vm_model.specs.declared.message.Channel.TheVariants.{Down, Up}
pub use Rattle.vm_model.specs.declared.message.Message.{Message}
pub use Rattle.vm_model.specs.declared.script.Header.{Header}
pub use Rattle.vm_outside.specs.Areas.{SameAreas, Told}
pub use Rattle.vm_outside.specs.Arming.{ArmedLater, Arming, armed_later_more, armed_later_same}
pub use Rattle.vm_outside.specs.Causes.{CountRises, sum_count}
pub use Rattle.vm_ports.specs.Ports.{PortTable}
pub use Rattle.vm_quiet.proofs.Letters.{first_is, is_out, never, outs, outs_sent, outs_taken, queue_is, same_channel, some_out}
pub use Rattle.vm_quiet.specs.Letters.{messages_on}
pub use Rattle.vm_system.specs.Backed.{BackingGoes, BackingWent, BackingsFit}
pub use Rattle.vm_system.specs.Channels.{ChannelTable, channel_number}
pub use Rattle.vm_system.specs.Keeping.{FilesAreTold, FilesCarry, MayHave}
pub use Rattle.vm_system.specs.Lawful.{Lawful}
pub use Rattle.vm_system.specs.Making.{Makes, Spares, SparesFiles, SparesPaging}
pub use Rattle.vm_system.specs.Orderly.{AllLetters, Ending, EndsLast, HasHeard, HasMade, IsHeard, IsHome, IsHostLetter, IsOrderly, IsSharedWord, IsWordUp}
pub use Rattle.vm_system.specs.Orderly.{NoEnd, home_for, is_end, is_washed, stands_in, washed_in}
pub use Rattle.vm_system.specs.Posts.{MayPost, AreSame, CanSend, CanTell, CanTellAll, HasRoom, HavePagesOf, IsPrepared, IsSent, OnlyRoom, Posts, SameHosts}
pub use Rattle.vm_system.specs.Refusing.{channel_code, code_at, queue_code}
pub use Rattle.vm_system.specs.Sends.{AreFresh, Delivered, made_by, opened}
pub use Rattle.vm_system.specs.Settling.{DevicesCounted, StaysOpen}
pub use Rattle.vm_system.specs.Stands.{Agrees, AllFilesServe, AllServe, AllTold, AreEmpty, AreNamedApart, AreNumbered, FilesAreKept, IsServable, PagingIsKept}
pub use Rattle.vm_system.specs.Stands.{StandsStill, SystemStands}
pub use Rattle.vm_system.specs.Steps.{DevicesHaveCause, GrowsWithinLimit, HasMore, IsBelowLimit, KeepsCanonical, KeepsOpen, LeavesBacking, CanonicalOpen}
pub use Rattle.vm_system.specs.Steps.{MayBegin, arms, devices, is_device, is_idle, is_kept_in, lined, settles, takes_any, takes_up, took_up}
pub use Rattle.vm_system.specs.Takings.{Followed, MayTakeFrom, PagerHasAnswered, TakesStep, Took}
pub use Rattle.vm_system.specs.declared.state.State.{State}
pub use Rattle.vm_system.specs.declared.stop.SystemStop.{SystemStop}
pub use Rattle.vm_system.specs.declared.stop.SystemStop.TheVariants.{EventLimit, NoMemory}
