-- A sustained event is a deed that has its cause, on each host.
use Rattle.std.proofs.Common.{ℕ, suc, ◌≡◌, ◌≢◌, ◌+◌, ◌*◌, ◌%◌, ◌/◌, ◌<◌, ◌≤◌, List, ◌∷◌, Bool, true, false, refl, sym, ap, subst, ◌∙◌, arith, Option, Some}
use Rattle.std.proofs.Common.{if◌then◌else◌, ⊎_elim, inl, inr}
use Rattle.std.proofs.lemmas.Bool.{cases_lt}
use Rattle.std.proofs.lemmas.Bool.Decides.{nat_tests}
use Rattle.std.specs.Prelude.{◌⊎◌, ◌==◌, ◌&&◌}
use Rattle.vm_base.specs.Pages.{little_endian_bytes}
use Rattle.vm_base.specs.declared.ids.HostId.{HostId}
use Rattle.vm_base.specs.declared.ids.ObjectId.{ObjectId}
use Rattle.vm_model.specs.declared.event.Event.{Event}
use Rattle.vm_model.specs.declared.event.Event.TheVariants as event
use Rattle.vm_model.specs.declared.message.Channel.TheVariants.{Up, Down}
use Rattle.vm_model.specs.declared.message.Message.{Message}
use Rattle.vm_model.specs.declared.message.Message.TheVariants as message
use Rattle.vm_model.specs.declared.script.Header.{Header}
use Rattle.vm_model.specs.Tasks.{host_of, entries_of}
use Rattle.vm_base.specs.Entries.{page_at}
use Rattle.vm_model.specs.Named.{named}
use Rattle.vm_legal.specs.Outside.{Outside, is_private, is_private_from, is_file, is_said, are_untold, zeros}
use Rattle.vm_legal.specs.Pushes.{OwesPush}
use Rattle.vm_model.specs.Local.{is_on}
use Rattle.vm_legal.specs.Living.{lives_on}
use Rattle.vm_model.specs.Waiting.{Storing, next_page, address_of}
use Rattle.vm_model.specs.Regions.{next_region, region_of}
use Rattle.vm_legal.specs.Used.{made_here}
use Rattle.vm_flat.proofs.Uses.{in_use}
use Rattle.vm_model.specs.Channels.{queue}
use Rattle.vm_flat.specs.Words.{SpotUpWord, Requesting, Returning, SpotDownWord, Supplying, Unavailing, Erring, TakesRequest, TakesReturn, Answers, Takes}
use Rattle.vm_model.specs.Side.{rest}
use Rattle.vm_model.specs.Server.{first}
use Rattle.vm_flat.specs.Spot.{Spot}
use Rattle.vm_flat.proofs.Allowed.{May}
use Rattle.vm_model.specs.Controls.{is_control, last_control, live_control}
use Rattle.vm_flat.proofs.Lives.{control_counts, has_control}
use Rattle.vm_flat.proofs.Locals.{known_absent}
use Rattle.vm_flat.specs.Places.{spot}
use Rattle.vm_legal.specs.Walks.{page_on}
use Rattle.vm_flat.proofs.Sustained.{control}
use Rattle.vm_legal.specs.Walks.{IsTop}
use Rattle.vm_legal.specs.Flat.{StoreChange, change_by, change_in, change_of, made_over, flat_page}
use Rattle.vm_legal.specs.Licences as L
use Rattle.vm_flat.proofs.Sustained as S
use Rattle.vm_legal.specs.Accesses.{Waits}
use Rattle.vm_flat.proofs.Sustained.{Sustained, MaySendUp, MaySendDown}
use Rattle.vm_legal.specs.Bytes.{CopiesCurrent}
use Rattle.vm_flat.proofs.Deeds as D
use Rattle.vm_flat.proofs.Causes as C
use Rattle.vm_flat.proofs.Causes.{Cause, Ours}
use Rattle.vm_flat.proofs.File.{file_is}
use Rattle.vm_flat.proofs.Control.{control_is}
use Rattle.vm_flat.proofs.World.{load}
use Rattle.vm_flat.proofs.Classes.{ground, deed, deeds, up_deed, taken_up_deed, down_deed, taken_down_deed, region_in, page_in, number_or_zero}
use Rattle.vm_flat.proofs.Ties.{as_row, control_tie, copy_is, covered_is, link_is, objects_is, regions_is, row_is, spot_is}
use Rattle.vm_flat.proofs.Joined.{merge_cause, top_at, used_at}
use Rattle.vm_flat.proofs.Filling.{FilledAt}
use Rattle.vm_flat.proofs.Covers.{declared_covered, file_covered, is_covered, later_told, stem}
use Rattle.vm_flat.proofs.Numbers.{marked_later}
use Rattle.vm_flat.proofs.Origins.{region_private}
use Rattle.vm_flat.proofs.Pushing.{covers, delayed_cause, pushes, shares, untold_bare}
use Rattle.vm_flat.proofs.Ports.{sound_of, spot_control}
use Rattle.vm_flat.proofs.Sound.{Sound}
use Rattle.vm_flat.proofs.Letters.{up_words, down_words, first_rest, down_of}
use Rattle.vm_flat.proofs.Holds.{Holds, led, tops, mark_is, plain_spot, walks, sinks, reach, here_is, asked_is, dirty_is, bytes_are}
use Rattle.vm_flat.proofs.Using.{used as in_legal_use, reached as legally}
use native.Mathlib.Decide.{ℕ_discrete}

second : (a b : Bool) → (a && b) ≡ true → b ≡ true
second true b is = is
second false b is = absurd (cc)

clash : (b : Bool) → b ≡ false → b ≡ true → ⊥
clash b isnt is = cc

number_is : (a b : ℕ) → (a == b) ≡ true → a ≡ b
number_is a b is = grind (arith, nat_tests)

-- the host of a task
lives_is : (task h g : ℕ) (past : List Event) → host_of task past ≡ Some g → lives_on h task past ≡ (g == h)
lives_is task h g past lives = ap (is_on h) lives

-- regions

cow_cause : (header : Header) (outside : Outside) (host region source offset pages : ℕ) (past : List Event) → Holds header outside past
    → L.CopiesRegion header region source offset pages past → Cause (ground header outside) (D.Cow region source offset pages)
    (deeds header outside host past)
cow_cause header outside host region source offset pages past h c =
    let row = led header outside c.task c.address past h.entries c.at in
    let within : c.at.entry.offset + c.at.entry.bytes / header.size ≤ (region_of header c.at.entry.region.0 past).pages = row.is.inside.whole in
    let here : (region_of header source past).pages ≡ (region_of header c.at.entry.region.0 past).pages = ap (λ k. (region_of header k past).pages)
    c.source_is in (
      c.next ∙ sym (regions_is header outside host past),
      omega (arith, row.is.made, c.source_is, regions_is header outside host past),
      subst (λ (n : ℕ). offset + pages ≤ n) (sym (ap (λ (w : D.Row). w.pages) (row_is header outside host source past)))
          (omega (arith, c.inside, within, here)),
    )

pub source_made : (header : Header) (outside : Outside) (region source offset pages : ℕ) (past : List Event) → Holds header outside past
    → L.CopiesRegion header region source offset pages past → source < next_region header past
source_made header outside region source offset pages past h c = omega (arith, (led header outside c.task c.address past h.entries c.at).is.made, c.source_is)

pub shadowed_made : (header : Header) (outside : Outside) (region new old : ℕ) (past : List Event) → Holds header outside past
    → L.Shadows header region new old past → region < next_region header past
shadowed_made header outside region new old past h c = omega (arith, (led header outside c.task c.address past h.entries c.waits.at).is.made, c.region_is)

shadow_cause : (header : Header) (outside : Outside) (host region new old : ℕ) (past : List Event) → Holds header outside past
    → L.Shadows header region new old past → Cause (ground header outside) (D.Shadowed region new) (deeds header outside host past)
shadow_cause header outside host region new old past h c =
    let made : region < next_region header past = shadowed_made header outside region new old past h c in
    let same : D.row (ground header outside) region (deeds header outside host past) ≡ as_row (in_use header outside host region past)
    (region_of header region past) = row_is header outside host region past in (
      c.next ∙ sym (objects_is header outside host past),
      omega (arith, made, regions_is header outside host past),
      ap (λ (w : D.Row). w.mark) same ∙ c.marked,
      subst (λ (w : D.Row). named header ≤ w.top) (sym same)
          (h.numbered.temporary region (marked_later header region past h.numbered c.marked) made),
    )

unmark_cause : (header : Header) (outside : Outside) (host region : ℕ) (past : List Event) → Holds header outside past → L.Unmarks header region past
    → Cause (ground header outside) (D.Unmarked region) (deeds header outside host past)
unmark_cause header outside host region past h c used =
    record {
      tops =
          λ r there apart same. apart (tops_at r (sym (used_at header outside host past r) ∙ there)
          (sym (top_at header outside host past r) ∙ same ∙ top_at header outside host past region));
      bare = λ v reached backed same. sole.bare v (legally header outside host v past (reach header outside host v past reached))
          (sym (ap (λ (x : D.Link). x.backed) (link_is header outside host v past)) ∙ backed)
          (sym (ap (λ (x : D.Link). x.under) (link_is header outside host v past)) ∙ same ∙ top_at header outside host past region);
    }
  where
    made : region < next_region header past
    made = omega (arith, (led header outside c.task c.address past h.entries c.waits.at).is.made, c.region_is)

    clash_used : in_use header outside host region past ≡ false → ⊥
    clash_used none = clash (in_use header outside host region past) none (sym (used_at header outside host past region) ∙ used)

    on : c.waits.at.host ≡ host
    on = elim (ℕ_discrete host c.waits.at.host) [
      | yes e ↦ sym e
      | no apart ↦
          let row = led header outside c.task c.address past h.entries c.waits.at in
          absurd (clash_used (ap (λ r. in_use header outside host r past) c.region_is ∙ row.is.alone host apart))
    ]

    sole : L.IsTopAlone header host region (region_of header region past).top past
    sole = subst (λ (g : ℕ). L.IsTopAlone header g region (region_of header region past).top past) on c.sole

    tops_at : (r : ℕ) → in_use header outside host r past ≡ true → (region_of header r past).top ≡ (region_of header region past).top → r ≡ region
    tops_at r there same = ⊎_elim
        (λ declared. absurd (omega (
          arith,
          h.numbered.declared_top r declared,
          same,
          declared,
          h.numbered.temporary region (marked_later header region past h.numbered c.marked) made,
        )))
        (λ later. sole.tops r later (in_legal_use header outside host r past there) same)
        (cases_lt r (named header))

-- places

zeroed_cause : (header : Header) (outside : Outside) (host : ℕ) (at : HostId) (object page : ℕ) (past : List Event) → Holds header outside past
    → (is_covered header outside object past ≡ true → ((object < named header)
    × S.Fills (spot header outside at.0 object page past) (page_on header at.0 object page past)) ⊎ L.Bottoms header at.0 object page past)
    → Cause (ground header outside) (D.Zeroed (at.0 == host) object page) (deeds header outside host past)
zeroed_cause header outside host at object page past h c ours = by (c private)
  where
    private : is_covered header outside object past ≡ true
    private = covers header outside host object past ours.covered

    is : at.0 ≡ host
    is = number_is at.0 host ours.on_host

    by : ((object < named header) × S.Fills (spot header outside at.0 object page past) (page_on header at.0 object page past))
        ⊎ L.Bottoms header at.0 object page past
        → ((D.is_file (ground header outside) object ≡ true) × C.Void (D.spot (ground header outside) object page (deeds header outside host past)))
        ⊎ C.Bottoms (ground header outside) object page (deeds header outside host past)
    by (inl fills) =
        let f : S.Fills (spot header outside host object page past) (page_on header host object page past) = subst
        (λ (k : ℕ). S.Fills (spot header outside k object page past) (page_on header k object page past)) is fills.1 in
        let same : D.spot (ground header outside) object page (deeds header outside host past) ≡ spot header outside host object page past = spot_is header
        outside host object page past in
        inl (
          declared_covered header outside object (stem header object past) private fills.0,
          record {
            void = ap (λ (s : Spot). s.void) same ∙ f.void;
            away = here_is header outside host object page false past f.away;
            unasked = asked_is header outside host object page false past f.unasked;
          },
        )
    by (inr b) =
        let row = led header outside b.task (address_of header.size (next_page b.task past) b.access) past h.entries b.waits.at in
        let on : b.waits.at.host ≡ host = b.on_host ∙ is in
        let used : in_use header outside host b.waits.at.entry.region.0 past ≡ true = subst
        (λ (k : ℕ). in_use header outside k b.waits.at.entry.region.0 past ≡ true) on
        (row.is.used_here (region_private header outside b.waits.at.entry.region.0
        (page_at header.size (address_of header.size (next_page b.task past) b.access) b.waits.at.entry) object page past h.numbered h.origins row.is.made
        b.is_top private)) in
        inr (record {
          region = b.waits.at.entry.region.0;
          index = page_at header.size (address_of header.size (next_page b.task past) b.access) b.waits.at.entry;
          steps = b.steps;
          tops =
              tops header outside host b.waits.at.entry.region.0 (page_at header.size (address_of header.size (next_page b.task past) b.access)
              b.waits.at.entry) object page past used b.is_top (row.is.inside.each (address_of header.size (next_page b.task past) b.access) row.from
              row.below);
          sinks =
              subst (λ (k : ℕ). C.Sinks (ground header outside) b.steps object page (deeds header outside k past)) is
              (sinks header outside at.0 past b.steps object page b.plain b.sinks);
        })

raised_cause : (header : Header) (outside : Outside) (host : ℕ) (at : HostId) (lower lower_page upper upper_page : ℕ) (past : List Event)
    → Holds header outside past → L.Raises header at.0 lower lower_page upper upper_page past
    → Cause (ground header outside) (D.Raised (at.0 == host) lower lower_page upper upper_page) (deeds header outside host past)
raised_cause header outside host at lower lower_page upper upper_page past h (L.Pushing c) ours =
    inr (pushes header outside host at.0 lower lower_page upper upper_page past h (number_is at.0 host ours.on_host) c)
raised_cause header outside host at lower lower_page upper upper_page past h (L.Finding c) ours =
    let is : at.0 ≡ host = number_is at.0 host ours.on_host in
    let row = led header outside c.task c.address past h.entries c.waits.at in
    let private : is_private header outside c.waits.at.entry.region.0 past ≡ true = region_private header outside c.waits.at.entry.region.0
    (page_at header.size c.address c.waits.at.entry) upper upper_page past h.numbered h.origins row.is.made c.is_top
    (covers header outside host upper past ours.covered) in
    let used : in_use header outside host c.waits.at.entry.region.0 past ≡ true = subst
    (λ (k : ℕ). in_use header outside k c.waits.at.entry.region.0 past ≡ true) (c.on_host ∙ is) (row.is.used_here private) in
    inl (record {
      region = c.waits.at.entry.region.0;
      index = page_at header.size c.address c.waits.at.entry;
      steps = c.steps;
      tops =
          tops header outside host c.waits.at.entry.region.0 (page_at header.size c.address c.waits.at.entry) upper upper_page past used c.is_top
          (row.is.inside.each c.address row.from row.below);
      walks =
          subst (λ (k : ℕ). C.Walks (ground header outside) (suc c.steps) upper upper_page lower lower_page (deeds header outside k past)) is
          (walks header outside at.0 past h.numbered (suc c.steps) upper upper_page lower lower_page c.walks);
      here = here_is header outside host lower lower_page true past (subst (λ (k : ℕ). (page_on header k lower lower_page past).here ≡ true) is c.here);
    })

-- what a store changes
pub change_is : (header : Header) (task address bytes value : ℕ) (past : List Event) → (w : Waits header task (Storing address bytes value) past)
    → change_of header.size task past ≡ Some (record {
      region = w.at.entry.region.0;
      page = page_at header.size address w.at.entry;
      at = address % header.size;
      bytes = little_endian_bytes bytes value;
    })
change_is header task address bytes value past w =
    ap (λ a. change_by header.size (entries_of header.size task past) a) w.waits ∙ ap (λ e. change_in header.size address bytes value e) w.at.found

unused_where : (header : Header) (outside : Outside) (host r i o p : ℕ) (past : List Event) → Holds header outside past → IsTop
    (region_of header r past) i o p
    → is_covered header outside o past ≡ false → in_use header outside host r past ≡ false
unused_where header outside host r i o p past h top isnt = by (in_use header outside host r past) refl
  where
    by : (b : Bool) → in_use header outside host r past ≡ b → b ≡ false
    by true used =
        let same : D.row (ground header outside) r (deeds header outside host past) ≡ as_row (in_use header outside host r past)
        (region_of header r past) = row_is header outside host r past in
        let covered : D.covered (ground header outside) (D.row (ground header outside) r (deeds header outside host past)).top
        (deeds header outside host past)
        ≡ true = (h.worlds host).shape.covers_tops r (ap (λ (w : D.Row). w.used) same ∙ used) in
        absurd (clash (is_covered header outside o past) isnt (subst (λ (k : ℕ). is_covered header outside k past ≡ true)
        (ap (λ (w : D.Row). w.top) same ∙ top.object) (covers header outside host _ past covered)))
    by false used = refl

stored_cause : (header : Header) (outside : Outside) (host : ℕ) (task object page at size value : ℕ) (past : List Event) → Holds header outside past
    → L.Stores header task object page at size value past
    → Cause (ground header outside) (D.Stored (lives_on host task past) (region_in (change_of header.size task past))
    (page_in (change_of header.size task past)) object page at (little_endian_bytes size value)) (deeds header outside host past)
stored_cause header outside host task object page at size value past h c =
    subst (λ (o : Option StoreChange). Cause (ground header outside) (D.Stored (lives_on host task past) (region_in o) (page_in o) object page
    at (little_endian_bytes size value)) (deeds header outside host past)) (sym (change_is header task c.address size value past c.waits))
    (by_host (lives_on host task past) refl)
  where
    by_host : (b : Bool) → lives_on host task past ≡ b
        → Cause (ground header outside) (D.Stored b c.waits.at.entry.region.0 (page_at header.size c.address c.waits.at.entry) object page
        at (little_endian_bytes size value)) (deeds header outside host past)
    by_host false isnt =
        let row = led header outside task c.address past h.entries c.waits.at in
        inr (record {
          unused = ap (λ (w : D.Row). w.used) (row_is header outside host c.waits.at.entry.region.0 past) ∙ row.is.alone host (λ e. apart e);
          apart = λ own. absurd (clash false refl own);
        })
      where
        apart : host ≡ c.waits.at.host → ⊥
        apart e =
            let t : lives_on host task past ≡ (c.waits.at.host == host) = lives_is task host c.waits.at.host past c.waits.at.lives in absurd
            (grind (arith, nat_tests))
    by_host true is = by_kind (is_covered header outside object past) refl
      where
        on : c.waits.at.host ≡ host
        on = let t : lives_on host task past ≡ (c.waits.at.host == host) = lives_is task host c.waits.at.host past c.waits.at.lives in grind
            (arith, nat_tests)

        by_kind : (b : Bool) → is_covered header outside object past ≡ b
            → Cause (ground header outside) (D.Stored true c.waits.at.entry.region.0 (page_at header.size c.address c.waits.at.entry) object page
            at (little_endian_bytes size value)) (deeds header outside host past)
        by_kind false isnt =
            inr (record {
              unused =
                  ap (λ (w : D.Row). w.used) (row_is header outside host c.waits.at.entry.region.0 past)
                  ∙ unused_where header outside host c.waits.at.entry.region.0 (page_at header.size c.address c.waits.at.entry) object page past h c.is_top
                  isnt;
              apart = λ own. covered_is header outside host object past ∙ isnt;
            })
        by_kind true private =
            let row = led header outside task c.address past h.entries c.waits.at in
            let ours : is_private header outside c.waits.at.entry.region.0 past ≡ true = region_private header outside c.waits.at.entry.region.0
            (page_at header.size c.address c.waits.at.entry) object page past h.numbered h.origins row.is.made c.is_top private in
            let used : in_use header outside host c.waits.at.entry.region.0 past ≡ true = subst
            (λ (k : ℕ). in_use header outside k c.waits.at.entry.region.0 past ≡ true) on (row.is.used_here ours) in
            inl (
              record { on_host = refl; covered = covered_is header outside host object past ∙ private },
              record {
                tops =
                    tops header outside host c.waits.at.entry.region.0 (page_at header.size c.address c.waits.at.entry) object page past used c.is_top
                    (row.is.inside.each c.address row.from row.below);
                unmarked = mark_is header outside host c.waits.at.entry.region.0 past c.unmarked;
                here = here_is header outside host object page true past (subst (λ (k : ℕ). (page_on header k object page past).here ≡ true) on c.here);
                pushed =
                    shares header outside host object page past h (λ copy owes. c.paid copy (subst (λ (k : ℕ). OwesPush header k object page copy past)
                    (sym on)
                    owes));
              },
            )

copied_cause : (header : Header) (outside : Outside) (host task index object page target : ℕ) (past : List Event) → Holds header outside past
    → L.CopiesPage header task index object page target past
    → (is_private header outside object past ≡ false → (host : ℕ) → lives_on host task past ≡ true
    → (page_on header host object page past).bytes ≡ flat_page header outside object page past)
    → Cause (ground header outside) (D.Copied (lives_on host task past) object page object page (number_or_zero (made_over target past)) index target index)
    (deeds header outside host past)
copied_cause header outside host task index object page target past h c current =
    let f : FilledAt header outside past c.waits.at.host (record { region = c.region; object = target }) = h.filling task c.waits.at.host c.address c.bytes c.to
    (record { region = c.region; object = target }) c.waits.at.lives c.waits.waits c.filled in
    subst (λ (o : Option ℕ). Cause (ground header outside) (D.Copied (lives_on host task past) object page object page (number_or_zero o) index target index)
    (deeds header outside host past)) (sym f.is_over)
    (by_host f (lives_on host task past) refl)
  where
    by_host : FilledAt header outside past c.waits.at.host (record { region = c.region; object = target }) → (b : Bool) → lives_on host task past ≡ b
        → Cause (ground header outside) (D.Copied b object page object page c.region index target index) (deeds header outside host past)
    by_host f false isnt =
        inr (record {
          unused = ap (λ (w : D.Row). w.used) (row_is header outside host c.region past) ∙ f.alone host (λ e. apart e);
          apart = λ own. absurd (clash false refl own);
        })
      where
        apart : host ≡ c.waits.at.host → ⊥
        apart e =
            let t : lives_on host task past ≡ (c.waits.at.host == host) = lives_is task host c.waits.at.host past c.waits.at.lives in absurd
            (grind (arith, nat_tests))
    by_host f true is = by_told (is_covered header outside target past) refl
      where
        later : named header ≤ target
        later = omega (arith, h.numbered.temporary c.region f.later f.made, f.top)

        on : c.waits.at.host ≡ host
        on = let t : lives_on host task past ≡ (c.waits.at.host == host) = lives_is task host c.waits.at.host past c.waits.at.lives in grind
            (arith, nat_tests)

        by_kind : (b : Bool) → is_private header outside object past ≡ b
            → D.flat (ground header outside) object page (deeds header outside host past) ≡ (D.spot (ground header outside) object page
            (deeds header outside host past)).bytes
        by_kind false isnt = h.flats host object page ∙ sym (current isnt host is) ∙ sym (bytes_are header outside host object page past)
        by_kind true private =
            let row = led header outside task (c.address + next_page task past * header.size) past h.entries c.waits.at in
            let region_is : c.waits.at.entry.region.0 ≡ object = sym (h.numbered.declared_top c.waits.at.entry.region.0 c.declared) ∙ c.is_top.object in
            let ours : is_private header outside c.waits.at.entry.region.0 past ≡ true = subst (λ (k : ℕ). is_private header outside k past ≡ true)
            (sym region_is) private in
            let used : in_use header outside host c.waits.at.entry.region.0 past ≡ true = subst
            (λ (k : ℕ). in_use header outside k c.waits.at.entry.region.0 past ≡ true) on (row.is.used_here ours) in
            let at : C.Tops (ground header outside) c.waits.at.entry.region.0 (page_at header.size (c.address + next_page task past * header.size)
            c.waits.at.entry) object page (deeds header outside host past) =
            tops header outside host c.waits.at.entry.region.0 (page_at header.size (c.address + next_page task past * header.size) c.waits.at.entry) object
            page past used c.is_top (row.is.inside.each (c.address + next_page task past * header.size) row.from row.below) in
            let got : (D.spot (ground header outside) object page (deeds header outside host past)).bytes ≡ D.flat (ground header outside)
            c.waits.at.entry.region.0 (page_at header.size (c.address + next_page task past * header.size) c.waits.at.entry)
            (deeds header outside host past) =
            load (ground header outside) c.waits.at.entry.region.0 (page_at header.size (c.address + next_page task past * header.size) c.waits.at.entry) 0
            object page object page (deeds header outside host past) (h.worlds host) at (refl, refl)
            (here_is header outside host object page true past (subst (λ (k : ℕ). (page_on header k object page past).here ≡ true) on c.here)) in
            let page_is : page_at header.size (c.address + next_page task past * header.size) c.waits.at.entry ≡ page = omega
            (arith, h.numbered.declared_shift c.waits.at.entry.region.0 c.declared, c.is_top.page) in
            sym (got ∙ ap (λ k. D.flat (ground header outside) k (page_at header.size (c.address + next_page task past * header.size) c.waits.at.entry)
            (deeds header outside host past)) region_is ∙ ap (λ q. D.flat (ground header outside) object q (deeds header outside host past)) page_is)

        by_told : (b : Bool) → is_covered header outside target past ≡ b
            → Cause (ground header outside) (D.Copied true object page object page c.region index target index) (deeds header outside host past)
        by_told false isnt =
            inr (record {
              unused =
                  ap (λ (w : D.Row). w.used) (row_is header outside host c.region past)
                  ∙ unused_where header outside host c.region index target index past h (record { object = f.top; page = omega (arith, f.shift) }) isnt;
              apart = λ own. covered_is header outside host target past ∙ isnt;
            })
        by_told true private =
            inl (
              record { on_host = refl; covered = covered_is header outside host target past ∙ private },
              record {
                tops =
                    tops header outside host c.region index target index past (subst (λ (k : ℕ). in_use header outside k c.region past ≡ true) on
                    (f.used_here (later_told header outside target (stem header target past) later private))) (record {
                      object = f.top;
                      page = omega
                          (arith, f.shift);
                    }) c.inside;
                unmarked = mark_is header outside host c.region past f.mark;
                away = here_is header outside host target index false past (subst (λ (k : ℕ). (page_on header k target index past).here ≡ false) on c.away);
                unasked =
                    asked_is header outside host target index false past (subst (λ (k : ℕ). (page_on header k target index past).asked ≡ false) on c.unasked);
                plain = plain_spot header outside host target index past later;
                no_copy = copy_is header outside host target past ∙ f.no_copy;
                same = by_kind (is_private header outside object past) refl;
              },
            )

dropped_cause : (header : Header) (outside : Outside) (host : ℕ) (at : HostId) (object page : ℕ) (past : List Event) → Holds header outside past
    → (is_covered header outside object past ≡ true → S.Drops header outside at.0 object page past)
    → Cause (ground header outside) (D.Dropped (at.0 == host) object page) (deeds header outside host past)
dropped_cause header outside host at object page past h c ours =
    let drops : S.Drops header outside host object page past = subst (λ (k : ℕ). S.Drops header outside k object page past) (number_is at.0 host ours.on_host)
    (c (covers header outside host object past ours.covered)) in
    (here_is header outside host object page true past drops.here, leaves drops.why)
  where
    clean : (page_on header host object page past).dirty ≡ false → (D.spot (ground header outside) object page (deeds header outside host past)).dirty ≡ false
    clean is = dirty_is header outside host object page false past is

    spared : (returns : ℕ) (b precious : Bool) → returns ≡ 2 → L.gives_back returns b precious ≡ false → b ≡ false
    spared returns b precious two is = grind (arith, nat_tests)

    leaves : S.Leaves header outside host object page (page_on header host object page past).dirty past
        → ((D.spot (ground header outside) object page (deeds header outside host past)).dirty ≡ false)
        ⊎ (C.Reach (ground header outside) object (deeds header outside host past) → ⊥)
    leaves (S.Clean is) = inl (clean is)
    leaves (S.Unreached above gone) = inr (λ reached. gone (reach header outside host object past reached))
    leaves (S.Flushed returns precious f kept) =
        let two : returns ≡ 2 = h.locks.taken (record {
          host = host;
          object = object;
          control = f.control;
          page = f.first;
          count = f.count;
          returns = returns;
          flush = true;
          lock = f.lock;
          reply = f.reply;
        }) (covers header outside host object past ours.covered) f.taken in
        inl (clean (spared returns (page_on header host object page past).dirty precious two kept))

may : (header : Header) (outside : Outside) (host o p : ℕ) (past : List Event) (P : Spot → Type 0) → P (spot header outside host o p past)
    → P (D.spot (ground header outside) o p (deeds header outside host past))
may header outside host o p past P is = subst P (sym (spot_is header outside host o p past)) is

control_here : (header : Header) (outside : Outside) (host o p n : ℕ) (past : List Event) → control header host o past ≡ n
    → (D.spot (ground header outside) o p (deeds header outside host past)).control ≡ n
control_here header outside host o p n past is =
    control_is (ground header outside) o p (deeds header outside host past) ∙ control_tie header outside host o past ∙ is

-- what is here belongs to an object that was made
born : (header : Header) (outside : Outside) (host o p : ℕ) (past : List Event) → Holds header outside past
    → D.covered (ground header outside) o (deeds header outside host past) ≡ true → (page_on header host o p past).here ≡ true → o < D.objects
    (ground header outside) (deeds header outside host past)
born header outside host o p past h ours here = ⊎_elim (λ less. less)
    (λ le. absurd (clash (D.spot (ground header outside) o p (deeds header outside host past)).here (((h.worlds host).places o p ours).blank le).0
    (here_is header outside host o p true past here)))
    (cases_lt o (D.objects (ground header outside) (deeds header outside host past)))

both_hold : (a b : Bool) → (a && b) ≡ true → (a ≡ true) × (b ≡ true)
both_hold true b is = (refl, is)
both_hold false b is = absurd (cc)

up_cause : (header : Header) (outside : Outside) (host : ℕ) (at : HostId) (object : ℕ) (m : Message) (past : List Event) → Holds header outside past
    → (is_covered header outside object past ≡ true → MaySendUp header outside at.0 object m past)
    → Cause (ground header outside) (up_deed (at.0 == host) (live_control host object past) object m) (deeds header outside host past)
up_cause header outside host at object (message.Init number size) past h c = λ ours.
    let may_send : MaySendUp header outside host object (message.Init number size) past = subst
    (λ (k : ℕ). MaySendUp header outside k object (message.Init number size) past) (number_is at.0 host ours.on_host) (c
    (covers header outside host object past ours.covered)) in (
      omega (arith, may_send.declared, h.numbered.later_objects, objects_is header outside host past),
      control_tie header outside host object past
          ∙ may_send.none,
    )
up_cause header outside host at object (message.Create number size) past h c = λ ours.
    let may_send : MaySendUp header outside host object (message.Create number size) past = subst
    (λ (k : ℕ). MaySendUp header outside k object (message.Create number size) past) (number_is at.0 host ours.on_host) (c
    (covers header outside host object past ours.covered)) in
    (born header outside host object may_send.3 past h ours.covered may_send.4, control_tie header outside host object past ∙ may_send.2)
up_cause header outside host at object (message.Request number page access) past h c = λ ours.
    let asks : L.Asks header host number object page.0 access past = subst (λ (k : ℕ). L.Asks header k number object page.0 access past)
    (number_is at.0 host ours.on_host) (c (covers header outside host object past ours.covered)) in (
      control_here header outside host object page.0 1 past (has_control header host object number past asks.live),
      here_is header outside host object page.0 false past asks.away,
      asked_is header outside host object page.0 false past asks.unasked,
      ap (λ (s : Spot). s.absent) (spot_is header outside host object page.0 past) ∙ known_absent header outside past host object page.0
          (stem header object past) (covers header outside host object past ours.covered)
          ∙ asks.known,
      control_counts host object number past asks.live,
    )
up_cause header outside host at object (message.Return number page dirty keep bytes) past h c = λ ours.
    let back : S.GivesBack header outside host number object page.0 dirty bytes past = subst
    (λ (k : ℕ). S.GivesBack header outside k number object page.0 dirty bytes past) (number_is at.0 host ours.on_host) (c
    (covers header outside host object past ours.covered)) in (
      control_here header outside host object page.0 1 past (has_control header host object number past back.live),
      here_is header outside host object page.0 true past back.here,
      dirty_is header outside host object page.0 true past back.dirty,
      back.same ∙ sym (bytes_are header outside host object page.0 past),
    )
up_cause header outside host at object (message.Terminate number) past h c = λ ours.
    let ends : S.Ends header outside host number object past = subst (λ (k : ℕ). S.Ends header outside k number object past)
    (number_is at.0 host (both_hold (at.0 == host) (is_control number (live_control host object past)) ours.on_host).0) (c
    (covers header outside host object past ours.covered)) in (
      kind ends ours,
      control_tie header outside host object past ∙ has_control header host object number past ends.live,
      λ p. (here_is header outside host object p false past (ends.away p), asked_is header outside host object p false past (ends.unasked p)),
    )
  where
    kind : S.Ends header outside host number object past
        → Ours (ground header outside) (at.0 == host && is_control number (live_control host object past)) object (deeds header outside host past)
        → (C.Reach (ground header outside) object (deeds header outside host past) → ⊥) ⊎ (D.is_file (ground header outside) object ≡ true)
    kind ends ours = by (D.is_file (ground header outside) object) refl
      where
        by : (b : Bool) → D.is_file (ground header outside) object ≡ b → (C.Reach (ground header outside) object (deeds header outside host past) → ⊥)
            ⊎ (b ≡ true)
        by true is = inr refl
        by false is = inl (λ reached. ends.unreached (above header outside object (stem header object past) is (covers header outside host
            object past ours.covered)) (reach header outside host object past reached))
          where
            above : (header : Header) (outside : Outside) (o : ℕ) (from : Option ℕ) → is_file header o ≡ false → is_private_from header outside o from ≡ true
                → named header ≤ o
            above header outside o from isnt private = grind (arith, nat_tests)
up_cause header outside host at object m past h c = tt

said_file : (u f : Bool) → (u && f) ≡ true → f ≡ true
said_file true f is = is
said_file false f is = absurd (cc)

-- a file is mapped on one host alone, and its region is its own
tells_cause : (header : Header) (outside : Outside) (host : ℕ) (at : HostId) (object n page : ℕ) (past : List Event) → Holds header outside past
    → is_said header outside object ≡ true → S.Answers header outside at.0 object n page past
    → (Ours (ground header outside) (at.0 == host && n == last_control host object past) object (deeds header outside host past)
    × C.OwnRegion (ground header outside) object (deeds header outside host past))
    ⊎ C.Foreign (ground header outside) (at.0 == host && n == last_control host object past) object object (deeds header outside host past)
tells_cause header outside host at object n page past h said a = by (at.0 == host) refl
  where
    file : is_file header object ≡ true
    file = said_file (are_untold outside.files) (is_file header object) said

    private : is_covered header outside object past ≡ true
    private = file_covered header outside object (stem header object past) file

    below : object < named header
    below = grind (arith, nat_tests)

    live_sound : (z : List ℕ) (s : Spot) → Sound z s → s.step ≡ true → s.control ≡ 1
    live_sound z s ok step = let asked : s.asked ≡ true = grind (arith, ok.one) in ok.living asked

    live : control header at.0 object past ≡ 1
    live =
        sym (spot_control header outside at.0 object page past)
        ∙ live_sound (zeros header) (spot header outside at.0 object page past) (sound_of header outside at.0 object page past h.worlds private) a.unanswered

    newest : n ≡ last_control at.0 object past
    newest = h.asked at.0 object n page private a.taken a.unanswered

    row_top : (r : ℕ) → D.Row
    row_top r = as_row (in_use header outside host r past) (region_of header r past)

    by : (b : Bool) → (at.0 == host) ≡ b
        → (Ours (ground header outside) (b && n == last_control host object past) object (deeds header outside host past)
        × C.OwnRegion (ground header outside) object (deeds header outside host past))
        ⊎ C.Foreign (ground header outside) (b && n == last_control host object past) object object (deeds header outside host past)
    by false isnt =
        inr (record {
          unused =
              ap (λ (w : D.Row). w.used) (row_is header outside host object past)
              ∙ h.homes at.0 object file live host (λ e. absurd (grind (arith, nat_tests)));
          apart = λ own. absurd (clash false refl own);
        })
    by true is =
        let on : at.0 ≡ host = number_is at.0 host is in
        let here : n ≡ last_control host object past = subst (λ (k : ℕ). n ≡ last_control k object past) on newest in
        inl (
          record { on_host = grind (arith, nat_tests); covered = covered_is header outside host object past ∙ private },
          record {
            file = file;
            top = ap (λ (w : D.Row). w.top) (row_is header outside host object past) ∙ h.numbered.declared_top object below;
            shift = ap (λ (w : D.Row). w.shift) (row_is header outside host object past) ∙ h.numbered.declared_shift object below;
            alone = λ r used apart. other r (sym (ap (λ (w : D.Row). w.used) (row_is header outside host r past)) ∙ used) apart;
            bare = λ o reached backed under. untold_bare header outside host object past o h said reached backed under;
          },
        )
      where
        other : (r : ℕ) → in_use header outside host r past ≡ true → r ≢ object
            → (D.row (ground header outside) r (deeds header outside host past)).top ≢ object
        other r used apart e =
            let top : (region_of header r past).top ≡ object = sym (ap (λ (w : D.Row). w.top) (row_is header outside host r past)) ∙ e in
            let made : r < next_region header past = omega (
              arith,
              (h.worlds host).shape.rows_below r (ap (λ (w : D.Row). w.used) (row_is header outside host r past) ∙ used),
              regions_is header outside host past,
            ) in
            ⊎_elim (λ less. apart (sym (h.numbered.declared_top r less) ∙ top)) (λ le. omega (arith, h.numbered.temporary r le made, top, below))
            (cases_lt r (named header))

-- the pager's answer
answer_cause : (header : Header) (outside : Outside) (host : ℕ) (at : HostId) (object n page : ℕ) (word : SpotDownWord) (past : List Event) (b : Bool)
    → is_said header outside object ≡ b → Holds header outside past
    → (is_covered header outside object past ≡ true → S.Answers header outside at.0 object n page past)
    → (Ours (ground header outside) (at.0 == host && n == last_control host object past) object (deeds header outside host past) → b ≡ false
    → May (zeros header) (spot header outside host object page past) (Answers false word))
    → Cause (ground header outside) (D.Answered (at.0 == host && n == last_control host object past) b object page word) (deeds header outside host past)
answer_cause header outside host at object n page word past false is h answers says =
    (λ ours. may header outside host object page past (λ s. May (zeros header) s (Answers false word)) (says ours refl), λ e. absurd (clash false refl e))
answer_cause header outside host at object n page word past true is h answers says =
    let file : is_file header object ≡ true = said_file (are_untold outside.files) (is_file header object) is in (
      λ ours.
          let a : S.Answers header outside host object n page past = subst (λ (k : ℕ). S.Answers header outside k object n page past)
          (number_is at.0 host (both_hold (at.0 == host) (n == last_control host object past) ours.on_host).0) (answers
          (covers header outside host object past ours.covered)) in (
            ap (λ (s : Spot). s.step) (spot_is header outside host object page past) ∙ a.unanswered,
            file_is (ground header outside) object page (deeds header outside host past) ∙ file,
          ),
      λ e. tells_cause header outside host at object n page past h is (answers (file_covered header outside object (stem header object past) file)),
    )

down_cause : (header : Header) (outside : Outside) (host : ℕ) (at : HostId) (object n : ℕ) (m : Message) (past : List Event) → Holds header outside past
    → (is_covered header outside object past ≡ true → MaySendDown header outside at.0 object n m past)
    → Cause (ground header outside) (down_deed (at.0 == host && n == last_control host object past) (is_said header outside object) object m)
    (deeds header outside host past)
down_cause header outside host at object n (message.Supply page lock precious bytes) past h c =
    answer_cause header outside host at object n page.0 (Supplying bytes) past (is_said header outside object) refl h (λ ours. (c ours).0)
    (λ ours said.
    let says : MaySendDown header outside host object n (message.Supply page lock precious bytes) past =
    subst (λ (k : ℕ). MaySendDown header outside k object n (message.Supply page lock precious bytes) past)
    (number_is at.0 host (both_hold (at.0 == host) (n == last_control host object past) ours.on_host).0) (c
    (covers header outside host object past ours.covered)) in
    (says.0.unanswered, says.1 said))
down_cause header outside host at object n (message.Unavailable page) past h c =
    answer_cause header outside host at object n page.0 Unavailing past (is_said header outside object) refl h (λ ours. (c ours).0)
    (λ ours said.
    let says : MaySendDown header outside host object n (message.Unavailable page) past =
    subst (λ (k : ℕ). MaySendDown header outside k object n (message.Unavailable page) past)
    (number_is at.0 host (both_hold (at.0 == host) (n == last_control host object past) ours.on_host).0) (c
    (covers header outside host object past ours.covered)) in
    (says.0.unanswered, says.1 said))
down_cause header outside host at object n (message.Error page reason) past h c =
    answer_cause header outside host at object n page.0 Erring past (is_said header outside object) refl h c
    (λ ours said.
    let says : MaySendDown header outside host object n (message.Error page reason) past =
    subst (λ (k : ℕ). MaySendDown header outside k object n (message.Error page reason) past)
    (number_is at.0 host (both_hold (at.0 == host) (n == last_control host object past) ours.on_host).0) (c
    (covers header outside host object past ours.covered)) in
    says.unanswered)
down_cause header outside host at object n m past h c = tt

-- takings

same_page : {A : Type 0} (p : ℕ) (x y : A) → (if p == p then x else y) ≡ x
same_page p x y = let is : (p == p) ≡ true = grind (arith, nat_tests) in ap (λ b. if b then x else y) is

first_up : (header : Header) (outside : Outside) (host : ℕ) (at : HostId) (object : ObjectId) (p : ℕ) (m : Message) (w : SpotUpWord) (past : List Event)
    → Holds header outside past → at.0 ≡ host → first (queue (Up at object) past) ≡ Some m
    → up_words p (m ∷ rest (queue (Up at object) past)) ≡ w ∷ up_words p (rest (queue (Up at object) past))
    → first (spot header outside host object.0 p past).up ≡ Some w
first_up header outside host at object p m w past h is head word =
    subst (λ (k : ℕ). first (spot header outside k object.0 p past).up ≡ Some w) is
    (ap (λ q. first q) (h.ups at.0 object.0 p ∙ ap (λ q. up_words p q) (first_rest (queue (Up at object) past) m head) ∙ word))

taken_up_cause : (header : Header) (outside : Outside) (host : ℕ) (at : HostId) (object : ObjectId) (m : Message) (past : List Event)
    → Holds header outside past → first (queue (Up at object) past) ≡ Some m
    → Cause (ground header outside) (taken_up_deed (at.0 == host) object.0 m) (deeds header outside host past)
taken_up_cause header outside host at object (message.Request number page access) past h head = λ ours.
    may header outside host object.0 page.0 past (λ s. May (zeros header) s TakesRequest)
    (first_up header outside host at object page.0 (message.Request number page access) Requesting past h (number_is at.0 host ours.on_host) head
    (same_page page.0 (Requesting ∷ up_words page.0 (rest (queue (Up at object) past))) (up_words page.0 (rest (queue (Up at object) past)))))
taken_up_cause header outside host at object (message.Return number page dirty keep bytes) past h head = λ ours.
    may header outside host object.0 page.0 past (λ s. May (zeros header) s (TakesReturn bytes))
    (first_up header outside host at object page.0 (message.Return number page dirty keep bytes) (Returning bytes) past h (number_is at.0 host ours.on_host)
    head
    (same_page page.0 (Returning bytes ∷ up_words page.0 (rest (queue (Up at object) past))) (up_words page.0 (rest (queue (Up at object) past)))))
taken_up_cause header outside host at object m past h head = tt

first_down : (header : Header) (outside : Outside) (host : ℕ) (at : HostId) (object : ObjectId) (n p : ℕ) (m : Message) (w : SpotDownWord) (past : List Event)
    → Holds header outside past → is_covered header outside object.0 past ≡ true → (at.0 == host && n == last_control host object.0 past) ≡ true
    → first (queue (Down at object n) past) ≡ Some m → down_words p (m ∷ rest (queue (Down at object n) past)) ≡ w ∷ down_words p
    (rest (queue (Down at object n) past))
    → first (spot header outside host object.0 p past).down ≡ Some w
first_down header outside host at object n p m w past h ours own head word =
    let on : at.0 ≡ host = number_is at.0 host (both_hold (at.0 == host) (n == last_control host object.0 past) own).0 in
    let newest : (n == last_control at.0 object.0 past) ≡ true = subst (λ (k : ℕ). (n == last_control k object.0 past) ≡ true) (sym on)
    (both_hold (at.0 == host) (n == last_control host object.0 past) own).1 in
    let all : down_words p (queue (Down at object n) past) ≡ (spot header outside at.0 object.0 p past).down = h.downs at.0 object.0 ours n p
    ∙ ap (λ b. down_of b (spot header outside at.0 object.0 p past)) newest in
    subst (λ (k : ℕ). first (spot header outside k object.0 p past).down ≡ Some w) on
    (ap (λ q. first q) (sym all ∙ ap (λ q. down_words p q) (first_rest (queue (Down at object n) past) m head) ∙ word))

taken_down_cause : (header : Header) (outside : Outside) (host : ℕ) (at : HostId) (object : ObjectId) (n : ℕ) (m : Message) (past : List Event)
    → Holds header outside past → first (queue (Down at object n) past) ≡ Some m
    → Cause (ground header outside) (taken_down_deed (at.0 == host && n == last_control host object.0 past) object.0 m) (deeds header outside host past)
taken_down_cause header outside host at object n (message.Supply page lock precious bytes) past h head = λ ours.
    may header outside host object.0 page.0 past (λ s. May (zeros header) s (Takes (Supplying bytes)))
    (first_down header outside host at object n page.0 (message.Supply page lock precious bytes) (Supplying bytes) past h
    (covers header outside host object.0 past ours.covered) ours.on_host head
    (same_page page.0 (Supplying bytes ∷ down_words page.0 (rest (queue (Down at object n) past))) (down_words page.0 (rest (queue
    (Down at object n) past)))))
taken_down_cause header outside host at object n (message.Unavailable page) past h head = λ ours.
    may header outside host object.0 page.0 past (λ s. May (zeros header) s (Takes Unavailing))
    (first_down header outside host at object n page.0 (message.Unavailable page) Unavailing past h
    (covers header outside host object.0 past ours.covered) ours.on_host head
    (same_page page.0 (Unavailing ∷ down_words page.0 (rest (queue (Down at object n) past))) (down_words page.0 (rest (queue (Down at object n) past)))))
taken_down_cause header outside host at object n (message.Error page reason) past h head = λ ours.
    may header outside host object.0 page.0 past (λ s. May (zeros header) s (Takes Erring))
    (first_down header outside host at object n page.0 (message.Error page reason) Erring past h
    (covers header outside host object.0 past ours.covered) ours.on_host head
    (same_page page.0 (Erring ∷ down_words page.0 (rest (queue (Down at object n) past))) (down_words page.0 (rest (queue (Down at object n) past)))))
taken_down_cause header outside host at object n m past h head = tt

pub cause : (header : Header) (outside : Outside) (host : ℕ) (e : Event) (past : List Event) → Holds header outside past → Sustained header outside e past
    → CopiesCurrent header outside e past → Cause (ground header outside) (deed header outside host e past) (deeds header outside host past)
cause header outside host (event.RegionMade region object pages) past h c current = (
  c.0 ∙ sym (regions_is header outside host past),
  c.1 ∙ sym (objects_is header outside host past),
  λ own. second (made_here host past) outside.paging own,
)
cause header outside host (event.RegionCopied region source offset pages) past h c current =
    cow_cause header outside host region.0 source.0 offset pages past h c
cause header outside host (event.Delayed region source offset pages copy) past h c current =
    delayed_cause header outside host region.0 source.0 offset pages copy.0 past h c
cause header outside host (event.Shadowed region new old) past h c current = shadow_cause header outside host region.0 new.0 old.0 past h c
cause header outside host (event.Unmarked region) past h c current = unmark_cause header outside host region.0 past h c
cause header outside host (event.Merged upper lower) past h c current = merge_cause header outside host upper.0 lower.0 past h c
cause header outside host (event.Zeroed at object page) past h c current = zeroed_cause header outside host at object.0 page.0 past h c
cause header outside host (event.Raised at lower lower_page upper upper_page) past h c current =
    raised_cause header outside host at lower.0 lower_page.0 upper.0 upper_page.0 past h c
cause header outside host (event.Stored task object page at size value) past h c current =
    stored_cause header outside host task.0 object.0 page.0 at size value past h c
cause header outside host (event.CopiedPage task page object object_page target) past h c current =
    copied_cause header outside host task.0 page.0 object.0 object_page.0 target.0 past h c current
cause header outside host (event.Dropped at object page) past h c current = dropped_cause header outside host at object.0 page.0 past h c
cause header outside host (event.Sent (Up at object) m) past h c current = up_cause header outside host at object.0 m past h c
cause header outside host (event.Sent (Down at object n) m) past h c current = down_cause header outside host at object.0 n m past h c
cause header outside host (event.Taken (Up at object) m) past h c current = taken_up_cause header outside host at object m past h c
cause header outside host (event.Taken (Down at object n) m) past h c current = taken_down_cause header outside host at object n m past h c
cause header outside host e past h c current = tt
