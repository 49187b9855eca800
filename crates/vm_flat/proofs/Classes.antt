-- What each event is to the memory of one host.
use Rattle.std.proofs.Common.{ℕ, List, [], ◌∷◌, Bool, Option, Some, None}
use Rattle.std.specs.Prelude.{◌==◌, ◌&&◌, ◌||◌, not}
use Rattle.vm_base.specs.Pages.{little_endian_bytes}
use Rattle.vm_model.specs.declared.event.Event.{Event}
use Rattle.vm_model.specs.declared.event.Event.TheVariants as event
use Rattle.vm_model.specs.declared.message.Channel.TheVariants.{Up, Down}
use Rattle.vm_model.specs.declared.message.Message.{Message}
use Rattle.vm_model.specs.declared.message.Message.TheVariants as message
use Rattle.vm_model.specs.declared.script.Header.{Header}
use Rattle.vm_model.specs.Named.{named, declared, declared_pages}
use Rattle.vm_legal.specs.Outside.{are_untold, is_file_kept, is_from_told, zeros, is_said, start_page}
use Rattle.vm_legal.specs.Living.{lives_on}
use Rattle.vm_legal.specs.Used.{is_kept, made_here}
use Rattle.vm_model.specs.Controls.{is_control, last_control, live_control}
use Rattle.vm_model.specs.Homes.{object_home}
use Rattle.vm_model.specs.Local.{is_on}
use Rattle.vm_model.specs.Regions.{backing_of, object_pages}
use Rattle.vm_legal.specs.Flat.{StoreChange, change_of, made_over}
use Rattle.vm_flat.specs.Words.{SpotDownWord, Supplying, Unavailing, Erring}
use Rattle.vm_legal.specs.Outside.{Outside}
use Rattle.vm_flat.proofs.Deeds.{Ground, Deed, Line, Region, Cow, Kept, Shadowed, Unmarked, Zeroed, Raised, Stored, Dropped, Created, Asked, Copied, Returned}
use Rattle.vm_flat.proofs.Deeds.{Delayed, Merged, TookRequest, TookReturn, Answered, Took, Terminated, Elsewhere}

abbrev pub ground : Header → Outside → Ground
ground header outside =
    record {
      zeros = zeros header;
      named = named header;
      file = λ o. is_file_kept (declared header o);
      paging = outside.paging;
      untold = are_untold outside.files;
      start = λ o p. start_page header outside o p;
      length = λ o. declared_pages header o;
    }

abbrev pub up_deed : Bool → Option ℕ → ℕ → Message → Deed
up_deed own live object (message.Init control size) = Created own object
up_deed own live object (message.Create control size) = Created own object
up_deed own live object (message.Request control page access) = Asked own (is_control control live) object page.0
up_deed own live object (message.Return control page dirty keep bytes) = Returned own object page.0 keep bytes
up_deed own live object (message.Terminate control) = Terminated (own && is_control control live) object
up_deed own live object other = Elsewhere

abbrev pub taken_up_deed : Bool → ℕ → Message → Deed
taken_up_deed own object (message.Request control page access) = TookRequest own object page.0
taken_up_deed own object (message.Return control page dirty keep bytes) = TookReturn own object page.0 bytes
taken_up_deed own object other = Line

abbrev pub down_deed : Bool → Bool → ℕ → Message → Deed
down_deed own tells object (message.Supply page lock precious bytes) = Answered own tells object page.0 (Supplying bytes)
down_deed own tells object (message.Unavailable page) = Answered own tells object page.0 Unavailing
down_deed own tells object (message.Error page reason) = Answered own tells object page.0 Erring
down_deed own tells object other = Elsewhere

abbrev pub taken_down_deed : Bool → ℕ → Message → Deed
taken_down_deed own object (message.Supply page lock precious bytes) = Took own object page.0 (Supplying bytes)
taken_down_deed own object (message.Unavailable page) = Took own object page.0 Unavailing
taken_down_deed own object (message.Error page reason) = Took own object page.0 Erring
taken_down_deed own object other = Line

abbrev pub region_in : Option StoreChange → ℕ
region_in None = 0
region_in (Some change) = change.region

abbrev pub page_in : Option StoreChange → ℕ
page_in None = 0
page_in (Some change) = change.page

abbrev pub number_or_zero : Option ℕ → ℕ
number_or_zero None = 0
number_or_zero (Some n) = n

abbrev pub deed : Header → Outside → ℕ → Event → List Event → Deed
deed header outside host (event.Line line) past = Line
deed header outside host (event.RegionMade region object pages) past = Region (made_here host past && outside.paging) region.0 object.0 pages
deed header outside host (event.RegionCopied region source offset pages) past = Cow region.0 source.0 offset pages
deed header outside host (event.Delayed region source offset pages copy) past =
    Delayed (outside.paging && is_from_told header outside (Some source.0)) region.0 source.0 offset pages copy.0
deed header outside host (event.Entered task address bytes region offset prot inherit) past = Kept (λ r. not (r == region.0) || lives_on host task.0 past)
deed header outside host (event.Removed task address bytes) past = Kept (λ r. is_kept header r (event.Removed task address bytes ∷ past))
deed header outside host (event.TaskEnded task) past = Kept (λ r. is_kept header r (event.TaskEnded task ∷ past))
deed header outside host (event.Failed task object page) past = Kept (λ r. is_kept header r (event.Failed task object page ∷ past))
deed header outside host (event.Shadowed region new old) past = Shadowed region.0 new.0
deed header outside host (event.Unmarked region) past = Unmarked region.0
deed header outside host (event.Merged upper lower) past =
    Merged (is_on host (object_home upper.0 past)) upper.0 lower.0 (backing_of header upper.0 past).shift (object_pages header upper.0 past)
    (object_pages header lower.0 past)
deed header outside host (event.Zeroed at object page) past = Zeroed (at.0 == host) object.0 page.0
deed header outside host (event.Raised at lower lower_page upper upper_page) past = Raised (at.0 == host) lower.0 lower_page.0 upper.0 upper_page.0
deed header outside host (event.Stored task object page at size value) past =
    Stored (lives_on host task.0 past) (region_in (change_of header.size task.0 past)) (page_in (change_of header.size task.0 past)) object.0 page.0
    at (little_endian_bytes size value)
deed header outside host (event.CopiedPage task page object object_page target) past =
    Copied (lives_on host task.0 past) object.0 object_page.0 object.0 object_page.0 (number_or_zero (made_over target.0 past)) page.0 target.0 page.0
deed header outside host (event.Dropped at object page) past = Dropped (at.0 == host) object.0 page.0
deed header outside host (event.Sent (Up at object) m) past = up_deed (at.0 == host) (live_control host object.0 past) object.0 m
deed header outside host (event.Sent (Down at object control) m) past =
    down_deed (at.0 == host && control == last_control host object.0 past) (is_said header outside object.0) object.0 m
deed header outside host (event.Taken (Up at object) m) past = taken_up_deed (at.0 == host) object.0 m
deed header outside host (event.Taken (Down at object control) m) past = taken_down_deed (at.0 == host && control == last_control host object.0 past) object.0 m
deed header outside host other past = Elsewhere

abbrev pub deeds : Header → Outside → ℕ → List Event → List Deed
deeds header outside host [] = []
deeds header outside host (e ∷ past) = deed header outside host e past ∷ deeds header outside host past

-- by cases on the message

pub up_case : (P : Deed → Type 0) → ((own : Bool) (o : ℕ) → P (Created own o)) → ((own lives : Bool) (o p : ℕ) → P (Asked own lives o p))
    → ((own : Bool) (o p : ℕ) (keep : Bool) (bytes : List ℕ) → P (Returned own o p keep bytes)) → ((own : Bool) (o : ℕ) → P (Terminated own o)) → P Elsewhere
    → (own : Bool) (live : Option ℕ) (object : ℕ) (m : Message) → P (up_deed own live object m)
up_case P a b c d e own live object (message.Init control size) = a own object
up_case P a b c d e own live object (message.Create control size) = a own object
up_case P a b c d e own live object (message.Request control page access) = b own (is_control control live) object page.0
up_case P a b c d e own live object (message.Return control page dirty keep bytes) = c own object page.0 keep bytes
up_case P a b c d e own live object (message.Terminate control) = d (own && is_control control live) object
up_case P a b c d e own live object other = e

pub taken_up_case : (P : Deed → Type 0) → ((own : Bool) (o p : ℕ) → P (TookRequest own o p))
    → ((own : Bool) (o p : ℕ) (bytes : List ℕ) → P (TookReturn own o p bytes)) → P Line
    → (own : Bool) (object : ℕ) (m : Message) → P (taken_up_deed own object m)
taken_up_case P a b c own object (message.Request control page access) = a own object page.0
taken_up_case P a b c own object (message.Return control page dirty keep bytes) = b own object page.0 bytes
taken_up_case P a b c own object other = c

pub down_case : (P : Deed → Type 0) (own tells : Bool) → ((o p : ℕ) (word : SpotDownWord) → P (Answered own tells o p word)) → P Elsewhere
    → (object : ℕ) (m : Message) → P (down_deed own tells object m)
down_case P own tells a b object (message.Supply page lock precious bytes) = a object page.0 (Supplying bytes)
down_case P own tells a b object (message.Unavailable page) = a object page.0 Unavailing
down_case P own tells a b object (message.Error page reason) = a object page.0 Erring
down_case P own tells a b object other = b

pub taken_down_case : (P : Deed → Type 0) → ((own : Bool) (o p : ℕ) (word : SpotDownWord) → P (Took own o p word)) → P Line
    → (own : Bool) (object : ℕ) (m : Message) → P (taken_down_deed own object m)
taken_down_case P a b own object (message.Supply page lock precious bytes) = a own object page.0 (Supplying bytes)
taken_down_case P a b own object (message.Unavailable page) = a own object page.0 Unavailing
taken_down_case P a b own object (message.Error page reason) = a own object page.0 Erring
taken_down_case P a b own object other = b
