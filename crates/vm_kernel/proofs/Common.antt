-- All that the proofs of this crate name from below.
pub use Rattle.std.proofs.Common.{Bool, List, None, Option, Some, [], ap, append-nil, append_assoc, arith, drop, false, get_or, inl, inr, length, length-append}
pub use Rattle.std.proofs.Common.{length-set, nat_le, refl, replicate, rules, set, subst, suc, sym, take, true, zero, ℕ, ◌%◌, ◌&&◌, ◌*◌, ◌++◌, ◌+◌, ◌-◌, ◌/◌}
pub use Rattle.std.proofs.Common.{◌<◌, ◌==◌, ◌^◌, ◌||◌, ◌∙◌, ◌∷◌, ◌≡◌, ◌≤◌}
pub use Rattle.std.proofs.Math.Seq.{drop-cons}
pub use Rattle.std.proofs.lemmas.Bool.{not-false, or_right}
pub use Rattle.std.proofs.lemmas.Bool.Decides.{eqb_tells, nat_tests}
pub use Rattle.std.proofs.lemmas.List.{get_or-set_other, length-replicate, length-reverse, reverse-append, take-append-drop, take_more}
pub use Rattle.std.proofs.lemmas.List.Elements.{All-append, All-cons, All-head, All-nil, All-tail}
pub use Rattle.std.proofs.lemmas.Option.{get_or_from_slice_get, slice_get_within}
pub use Rattle.std.specs.List.{flat_map}
pub use Rattle.std.specs.Prelude.{All, Err, IfSome, IsSome, IsSomeAnd, MatchOption, Ok, OnOk, Result, if◌then◌else◌, is_none, is_some, map, max, min, nat_lt}
pub use Rattle.std.specs.Prelude.{not, reverse, slice_get, slice_range, unwrap_or, ◌≢◌, ◌⊎◌}
pub use Rattle.vm_abroad.proofs.Elsewhere.{ApartElsewhere, apart_abroad}
pub use Rattle.vm_abroad.proofs.Facts.{stays, use_same}
pub use Rattle.vm_abroad.proofs.Home.{home_entered, home_stays, homes_next, homes_stay}
pub use Rattle.vm_abroad.proofs.Pages.{pages_abroad}
pub use Rattle.vm_abroad.proofs.Sounds.{both_left, one_home, sound_next, use_of, used_of}
pub use Rattle.vm_abroad.proofs.Waits.{leads_now, swept_now, vain_now}
pub use Rattle.vm_abroad.specs.Home.{HaveHomes}
pub use Rattle.vm_abroad.specs.Same.{SameFacts, SameForHost}
pub use Rattle.vm_abroad.specs.Sound.{IsAbroad, IsAmong, IsHeldOn, IsRegionOf, Knows, Sound, holds}
pub use Rattle.vm_abroad.specs.Whose.{IsOfHost, IsShut}
pub use Rattle.vm_base.proofs.Options.{none_of}
pub use Rattle.vm_base.specs.Entries.{AllWholePages, AreEntries, HasWholePages, InOrder, allows, by_address, cut, entered, entry_at, inherited, is_range}
pub use Rattle.vm_base.specs.Entries.{meets_range, most_entries, page_at, parts_in, protected, removed, rewritten}
pub use Rattle.vm_base.specs.Pages.{IsAccessSize, little_endian, little_endian_bytes, with_bytes}
pub use Rattle.vm_base.specs.declared.code.Code.{Code}
pub use Rattle.vm_base.specs.declared.entry.Entry.{Entry}
pub use Rattle.vm_base.specs.declared.ids.FrameNo.{FrameNo}
pub use Rattle.vm_base.specs.declared.ids.HostId.{HostId}
pub use Rattle.vm_base.specs.declared.ids.Inherit.{Inherit}
pub use Rattle.vm_base.specs.declared.ids.ObjectId.{ObjectId}
pub use Rattle.vm_base.specs.declared.ids.ObjectKind.{ObjectKind}
pub use Rattle.vm_base.specs.declared.ids.ObjectKind.TheVariants.{Temp}
pub use Rattle.vm_base.specs.declared.ids.PageKey.{PageKey}
pub use Rattle.vm_base.specs.declared.ids.PageNo.{PageNo}
pub use Rattle.vm_base.specs.declared.ids.Prot.{Prot}
pub use Rattle.vm_base.specs.declared.ids.RegionId.{RegionId}
pub use Rattle.vm_base.specs.declared.ids.TaskId.{TaskId}
pub use Rattle.vm_frames.proofs.Spares.{count_released}
pub use Rattle.vm_frames.specs.Frames.{FrameTable, Releases, claimed, count_claims, frame_count, free, is_claimed, page_in}
pub use Rattle.vm_kernel.specs.declared.attempt.Attempt.{Attempt}
pub use Rattle.vm_legal.proofs.Inside.{absence_more, before_more, error_more, or_true, since_more, taken_more}
pub use Rattle.vm_legal.proofs.LockNames.{unnamed}
pub use Rattle.vm_legal.proofs.Locks.{no_request, none_locked}
pub use Rattle.vm_legal.proofs.Stretched.{each_both, inner_both, licensed_both, moments_both, of_both}
pub use Rattle.vm_legal.specs.Accesses.{Comes, FindsPage, HasPlace, Nowhere, ToRead, ToWrite, Waits, Wants, WantsFrame, begun_at, is_ready, page_of}
pub use Rattle.vm_legal.specs.Bytes.{OwnBytes}
pub use Rattle.vm_legal.specs.Debts.{IsPaid}
pub use Rattle.vm_legal.specs.InTurn.{WaitsAt}
pub use Rattle.vm_legal.specs.Follows.{IsConsequence, head}
pub use Rattle.vm_legal.specs.InTurn.{EndsNext, GoesNext, IsDoneInTurn, IsEnd, IsNext, MeetsNoControl}
pub use Rattle.vm_legal.specs.Frames.{Suffice, frames_free, frames_held, frames_used, frames_wired, returns_out}
pub use Rattle.vm_legal.specs.Homes.{EntersNext, IsOnlyOfHost, begins_here, is_home, is_used, starts_copy}
pub use Rattle.vm_legal.specs.Licences.{Created, Creates, Enters, Fails, GivesBack, HasCause, ReturnCause, ReturnsOn, Unreached, desired_access, owed}
pub use Rattle.vm_legal.specs.InTurn.{AllInTurn, CausedInTurn, LicensedInTurn}
pub use Rattle.vm_legal.specs.Living.{lives_on, tasks}
pub use Rattle.vm_legal.specs.Outside.{Outside}
pub use Rattle.vm_legal.specs.Prompt.{AReady, AnAnswer, Awaits, HostIsFull, IsExhausted, NoneInVain, PromptAt, WaitsForPager}
pub use Rattle.vm_legal.specs.Swept.{IsSwept}
pub use Rattle.vm_legal.specs.Reclaims.{IsReclaim, PagesOut, ReclaimsOnly, Starves}
pub use Rattle.vm_legal.specs.Refusal.{access_refusal, acting, code_where, has_copy_mark, is_fork_full, meets_uncopied, refusal}
pub use Rattle.vm_legal.specs.Steps.{Asked, absence_taken, before_step, departures, error_taken, fails_access, fails_task, since, taken_letter}
pub use Rattle.vm_legal.specs.Stretches.{AllInner, EachIn, EachOf, IsInner, MomentsIn}
pub use Rattle.vm_legal.specs.Used.{in_use, is_filled, is_held, is_kept, made_here}
pub use Rattle.vm_legal.specs.Walks.{Below, IsTop, Passes, Reach, Sight, Sinks, Walks, page_on, sight}
pub use Rattle.vm_maps.proofs.Entering.{length_entered}
pub use Rattle.vm_maps.specs.Judge.{IsAllowed, place_at}
pub use Rattle.vm_maps.specs.Maps.{ChangesOnly, Mapped, entries_in, parts_for, rows_in}
pub use Rattle.vm_maps.specs.declared.change.MapChange.{MapChange}
pub use Rattle.vm_maps.specs.declared.place.Place.{Place}
pub use Rattle.vm_model.specs.Bytes.{number_at}
pub use Rattle.vm_model.specs.Controls.{is_control, last_control, live_control, without_control}
pub use Rattle.vm_model.specs.Homes.{home_of, object_home}
pub use Rattle.vm_model.specs.Local.{Asks, Begins, Drops, Elsewhere, Ends, Local, LocalEffect, Raises, Returns, Stores, TakesError, TakesLock, TakesNothing}
pub use Rattle.vm_model.specs.Local.{TakesPage, Unlocks, Zeroes, away, is_known_absent, is_on, local, local_after, local_with_page, taken_effect}
pub use Rattle.vm_model.specs.Named.{named}
pub use Rattle.vm_model.specs.Ranges.{InRange}
pub use Rattle.vm_model.specs.Regions.{Backing, Region, backing_of, marked_regions, next_object, next_region, region_of}
pub use Rattle.vm_model.specs.Rows.{AllRows, FoundRow, HoldsOfParts, Inside, found_row, inside_part, page_below, part, rows_cut, rows_entered, rows_flat}
pub use Rattle.vm_model.specs.Rows.{rows_known, rows_map, rows_rewritten}
pub use Rattle.vm_model.specs.Tasks.{copies, copies_from, entries_of, has_entry, host_of, is_copied, is_shared, new_marks, shared, sources}
pub use Rattle.vm_model.specs.Waiting.{Access, Loading, Storing, Target, address_of, begins_copy, copy_target, fills, is_store, next_page, waiting}
pub use Rattle.vm_model.specs.declared.command.Command.{Command}
pub use Rattle.vm_model.specs.declared.event.Event.{Event}
pub use Rattle.vm_model.specs.declared.message.Channel.{Channel}
pub use Rattle.vm_model.specs.declared.message.Channel.TheVariants.{Down, Up}
pub use Rattle.vm_model.specs.declared.message.Message.{Message}
pub use Rattle.vm_model.specs.declared.script.Declared.{Declared}
pub use Rattle.vm_model.specs.declared.script.Header.{Header}
pub use Rattle.vm_objects.specs.Objects.{ObjectTable, PutsAbsent, PutsObject, SameMarks, SameObjects, absent_among, absent_at, object_among, object_at}
pub use Rattle.vm_objects.specs.declared.row.ObjectRow.{ObjectRow}
pub use Rattle.vm_objects.specs.declared.row.PagerState.{PagerState}
pub use Rattle.vm_objects.specs.declared.row.PagerState.TheVariants.{Without}
pub use Rattle.vm_pageout.specs.Laundry.{LaundryList}
pub use Rattle.vm_pageout.specs.Reclaims.{IsChosen, IsFreed, IsNothing, IsReturned, ReclaimEffects, controlled, looked, queues_after_search, row_with_control}
pub use Rattle.vm_pageout.specs.Reclaims.{sends, told_from}
pub use Rattle.vm_pageout.specs.declared.answer.Reclaim.{Reclaim}
pub use Rattle.vm_parts.proofs.Changing.{changes_roomier}
pub use Rattle.vm_parts.proofs.Fitting.{fit_objects, fit_released, fit_touched, fit_within, frame_apart, same_pages}
pub use Rattle.vm_frames.proofs.Spares.{mark_there}
pub use Rattle.vm_parts.proofs.Rows.{asked_is, if_true, of_found, one_case, row_cases, row_of, row_put, set_cases, some_is}
pub use Rattle.vm_parts.specs.Changes.{AsksPage, Brings, Cancels, Changes, Discards, FillsPage, Writes, asked_row, clean_row, led, unlocked}
pub use Rattle.vm_parts.specs.Controls.{AllLive}
pub use Rattle.vm_parts.specs.Fits.{Fit, IsStart, object_pages, pages_of_row}
pub use Rattle.vm_parts.specs.Locks.{lock_numbered}
pub use Rattle.vm_parts.specs.declared.parts.HostParts.{HostParts}
pub use Rattle.vm_queues.proofs.Balance.{balanced_done, none_needed, spared_done}
pub use Rattle.vm_queues.proofs.Queued.{queued_victim}
pub use Rattle.vm_queues.specs.Kept.{front_referenced_of}
pub use Rattle.vm_queues.specs.Queues.{AllSkipped, KeepsPages, Page, Queues, added, balanced, cleared, from_unreferenced, has_page, is_queued, is_skipped}
pub use Rattle.vm_queues.specs.Queues.{needs_none, queues_except, referenced_front, shortage, spared, victim_frame, with_reference}
pub use Rattle.vm_resident.specs.Resident.{PutsRow, ResidentTable, owner_of, page_key, row_at}
pub use Rattle.vm_resident.specs.declared.page_row.PageRow.{PageRow}
pub use Rattle.vm_shadow.specs.Chains.{ChainTable, PutsRegion, region_at, shadow_at}
pub use Rattle.vm_shadow.specs.declared.ids.Ids.{Ids}
pub use Rattle.vm_shadow.specs.declared.region_row.RegionRow.{RegionRow}
pub use Rattle.vm_shadow.specs.declared.shadow_row.ShadowRow.{ShadowRow}
pub use Rattle.vm_supply.specs.Answers.{AnswerEffects, AnswerOutcome, Discarded, Failed, FailsPage, IsAnswer, Lacked, Lacks, Readied, Readies, Supplied}
pub use Rattle.vm_supply.specs.Answers.{Supplies, Zeroed, key_of, live_outcome, outcome_of, ready_outcome, unavailable_outcome}
pub use Rattle.vm_supply.specs.declared.woken.Woken.{Woken}
pub use Rattle.vm_terminate.specs.Finishes.{IsReferred}
pub use Rattle.vm_waits.proofs.Entries.{none_again, none_queued, puts_cases, puts_elsewhere, puts_here}
pub use Rattle.vm_waits.proofs.Lines.{same_others}
pub use Rattle.vm_waits.specs.Kept.{AreQueued, EachListedOnce}
pub use Rattle.vm_waits.specs.Waits.{PutsEntry, WaitTable, count_again, entry, first_in_queue, is_again, is_frame, is_listed, oldest_row, one_again, one_frame}
pub use Rattle.vm_waits.specs.Waits.{queue_without, queued, rows_without, turned, waits_for_frame, waits_page, with_on, woken_page, woken_ready}
pub use Rattle.vm_waits.specs.Wants.{IsOfNumber, IsSizedWant, address_in, need_in, want_size}
pub use Rattle.vm_waits.specs.declared.waiting.On.{On}
pub use Rattle.vm_waits.specs.declared.waiting.Waiting.{Waiting}
pub use Rattle.vm_waits.specs.declared.waiting.Want.{Want}
pub use Rattle.vm_kernel.specs.Abroad.{IsCommon, IsNobodys}
pub use Rattle.vm_kernel.specs.Begun.{CreatesHere, Grows, IsInStep, IsLaundered, IsLined, IsMine, KernelSays, LegalEvents, Passed, Ran, Served, Starts, acts_on}
pub use Rattle.vm_kernel.specs.Built.{changes_entries, kernel_runs}
pub use Rattle.vm_kernel.specs.Changes.{MadeRange, entering, inheritance, protection, removal, whole_entry}
pub use Rattle.vm_state.specs.Counts.{count_by, count_on, marked_in, marks_of}
unfoldable pub use Rattle.vm_state.specs.Counts.{all_tasks}
pub use Rattle.vm_kernel.specs.Fits.{ArePlain, IsPlainRow, PartsFit}
pub use Rattle.vm_kernel.specs.Forking.{CanCopy, CanShare, EntersCopy, Shares, entry_on, got}
pub use Rattle.vm_state.specs.Filling.{AllUsed, HasCopies, IsFilledIn, IsInUse, IsUsed, fills_in}
pub use Rattle.vm_state.specs.Stands.{AllEntriesInside, AreShared, EachApart, HasControls, HasEntries, HasFrames, HasKinds, HasLaundry, HasPages}
pub use Rattle.vm_state.specs.Stands.{HasRegions, HasTasks, HasUse, IsDeclared, IsInside, IsOfKind, IsShared, IsTemporary, IsWashed, is_among}
pub use Rattle.vm_state.specs.References.{AllReferred, AllReferredBut}
pub use Rattle.vm_kernel.specs.Matches.{HasOrder, HasSlow, HasWaits, IsRanged, IsSettled, KnowsHomes, Matches, Rests, UsesAll, Works, first_ids, host_id}
pub use Rattle.vm_state.specs.Pagers.{has_pager, is_ready_state, last_in, live_in, ready_in}
pub use Rattle.vm_state.specs.Places.{entries_in_row, has_region, local_of_row, lock_number, pages_in, place_of, region_entries, region_pages, with_entries}
pub use Rattle.vm_kernel.specs.Plays.{AnswerBrings, DepartsFrom, Does, IsVictim, Marks, Paging, Plays, PlaysAnswer, Still, Then, frame_here, paging}
pub use Rattle.vm_kernel.specs.Plays.{places_with_frame}
pub use Rattle.vm_kernel.specs.Refusing.{IsForHere, acting_in, code_of, is_marked, object_total, takes_name}
pub use Rattle.vm_kernel.specs.Serving.{Attempts, FreesOrReturns, HasQueue, IsHere, IsNextAccess, JoinsQueue, QueueIsServed, RunsFirst}
pub use Rattle.vm_kernel.specs.Sweeping.{EndsObject, EndsOnly, EndsRegion, IsAmid, IsEnding, IsWhole, OnlyLoses, PutsEntries, Raised, Sweeps, cut_at}
pub use Rattle.vm_kernel.specs.Sweeping.{cut_at_ends}
pub use Rattle.vm_kernel.specs.Taking.{EachGone, EndsEach, EndsNobody, FailsNow, HasAsker, HasEnded, HasFailed, IsAbsencePaid, IsAnswered, IsErrorPaid}
pub use Rattle.vm_legal.specs.InTurn.{EndsAll}
pub use Rattle.vm_kernel.specs.Turns.{ClaimsInTurn, Did, ForAsked, ForZeros, Found, Goes, IsBrought, Joins, KeepsOthers, LeavesInTurn, Nothing, QueueAfter}
pub use Rattle.vm_kernel.specs.Turns.{QueueIsStill, Restarted, Restarts, RunsNobody, RunsNone, RunsNoneYet, RunsOnce, Start}
pub use Rattle.vm_state.specs.Waiters.{Asker, BeganInOrder, HasWaiters, IsAsked, IsPagerTold, IsPlaceOf, LeadsTo, Reason, access_in, copies_to, is_woken}
pub use Rattle.vm_state.specs.Waiters.{waiting_in}
pub use Rattle.vm_fault.specs.Walks.{IsAt, IsUnder}
pub use Rattle.vm_kernel.specs.declared.parts.Parts.{Parts}
