-- What a kernel's tables show of its history's walks, and of the places of an access.
use Rattle.vm_kernel.proofs.Common.{Entry, Event, HasPlace, Header, Ids, IsPlaceOf, LeadsTo, List, Matches, PageKey, Parts, Some, Waits, Want, access_in}
use Rattle.vm_kernel.proofs.Common.{address_in, address_of, ap, entries_in, entries_of, entry_at, is_some, next_page, page_at, page_of, refl, rows_in, some_is}
use Rattle.vm_kernel.proofs.Common.{[], subst, sym, true, ℕ, ◌*◌, ◌+◌, ◌∙◌, ◌≡◌}
use Rattle.std.proofs.Common.{arith}
use Rattle.std.proofs.Math.Nat.{mul-div_cancel}
use Rattle.std.specs.Prelude.{◌/◌, ◌<◌}
use Rattle.vm_legal.specs.Accesses.{HasPageLeft}
use Rattle.vm_waits.specs.Wants.{IsSizedWant}
use Rattle.vm_waits.specs.declared.waiting.Want.TheVariants as want
use Rattle.vm_state.proofs.Filling.{AgreesNext}
use Rattle.vm_state.proofs.Referring.{refers_region, refers_shadow}
use Rattle.vm_state.proofs.Shown.{IsShown}
use Rattle.vm_fault.specs.Walks.{IsAt}
use Rattle.vm_legal.specs.Walks.{IsTop}
use Rattle.vm_model.specs.Regions.{region_of}
use Rattle.vm_state.proofs.Walks.{place_of_page, top_of}

pub shown_at : {header : Header} {h : ℕ} {k : Parts} {ids : Ids} {lost : List Entry} {past : List Event} → Matches header h k ids lost past
    → IsShown header h k.memory k.chains past
shown_at m =
    record {
      present = m.core.objects.kinds.present;
      pages = m.core.pages.shown;
      live = m.core.controls.live;
      ready = m.core.controls.ready;
      lives = λ o known found. (m.core.objects.kinds.kinds o known found).lives;
      rows = m.core.objects.regions.rows;
      shadows = m.core.objects.regions.shadows;
      bottoms = m.core.objects.regions.bottoms;
      under_referred = λ o row found. refers_shadow m.core.objects.regions o row found;
      top_referred = λ r row found. refers_region m.core.objects.regions r row found;
    }

-- the address of an access: of a slow copy that of its next page
pub want_address : (size other next to : ℕ) (what : Want) → size ≡ other → AgreesNext what next
    → address_of other next (access_in size to what) ≡ address_in size what
want_address size other next to (want.Load address n) sized agrees = refl
want_address size other next to (want.Store address n value) sized agrees = refl
want_address size other next to (want.CopyTo address pages target page) sized agrees =
    ap (λ z. address + z * other) agrees ∙ ap (λ z. address + page * z) (sym sized)

-- it has a page left, which of a slow copy is its next one
pub page_left : (size other next to : ℕ) (what : Want) → size ≡ other → 0 < other → IsSizedWant size what → AgreesNext what next
    → HasPageLeft other (access_in size to what) next
page_left size other next to (want.Load address bytes) same some sized agrees = tt
page_left size other next to (want.Store address bytes value) same some sized agrees = tt
page_left size other next to (want.CopyTo address pages target page) same some sized agrees =
    rw (same, agrees) (let whole : pages * other / other ≡ pages = mul-div_cancel pages some in let left = sized.1 in omega (arith, whole, left))

-- so it is about the same page of its entry's region
pub page_of_want : {header : Header} {h : ℕ} {k : Parts} {ids : Ids} {lost : List Entry} {past : List Event} (task to : ℕ) (what : Want) (entry : Entry)
    → Matches header h k ids lost past → AgreesNext what (next_page task past)
    → page_at k.maps.size (address_in k.maps.size what) entry ≡ page_of header task (access_in k.maps.size to what) past entry
page_of_want {header = header} {k = k} {past = past} task to what entry m agrees =
    ap (λ z. page_at z (address_in k.maps.size what) entry) m.core.spaces.tasks.sized
    ∙ ap (λ z. page_at header.size z entry) (sym (want_address k.maps.size header.size (next_page task past) to what m.core.spaces.tasks.sized agrees))

-- the places of a task's access are those of the page that the history has it about
pub place_at : {header : Header} {h : ℕ} {k : Parts} {ids : Ids} {lost : List Entry} {past : List Event} {task : ℕ} {what : Want} {key : PageKey}
    → Matches header h k ids lost past → (to : ℕ) → AgreesNext what (next_page task past) → (place : IsPlaceOf k.maps k.chains task what key)
    → HasPlace header place.at.entry.region.0 (page_of header task (access_in k.maps.size to what) past place.at.entry) key.object.0 key.page.0 past
place_at {header = header} {k = k} {past = past} {task = task} {what = what} {key = key} m to agrees place =
    let at = place.at in
    subst (λ (z : ℕ). HasPlace header at.entry.region.0 z key.object.0 key.page.0 past) (page_of_want task to what at.entry m agrees)
    (place_of_page (shown_at m) at.entry.region.0 at.row at.region (page_at k.maps.size (address_in k.maps.size what) at.entry) place.steps key
    (subst (λ (z : PageKey). LeadsTo k.chains place.steps z key) at.is place.leads))

-- so they are of an access that waits there
pub waiting_place : {header : Header} {h : ℕ} {k : Parts} {ids : Ids} {lost : List Entry} {past : List Event} {task : ℕ} {what : Want} {key : PageKey}
    → Matches header h k ids lost past → (to : ℕ) → AgreesNext what (next_page task past) → IsPlaceOf k.maps k.chains task what key
    → is_some (entries_in task k.maps) ≡ true → (waits : Waits header task (access_in k.maps.size to what) past)
    → HasPlace header waits.at.entry.region.0 (page_of header task (access_in k.maps.size to what) past waits.at.entry) key.object.0 key.page.0 past
waiting_place {header = header} {k = k} {past = past} {task = task} {what = what} {key = key} m to agrees place here waits =
    let size = k.maps.size in
    let found : entry_at (address_in size what) (rows_in task k.maps) ≡ Some waits.at.entry =
    ap (entry_at (address_in size what)) (sym (m.core.spaces.tasks.rows task here))
    ∙ (ap (λ z. entry_at z (entries_of header.size task past)) (sym (want_address size header.size (next_page task past) to what m.core.spaces.tasks.sized
    agrees))
    ∙ waits.at.found) in
    subst (λ (z : Entry). HasPlace header z.region.0 (page_of header task (access_in size to what) past z) key.object.0 key.page.0 past)
    (some_is place.at.entry waits.at.entry (sym place.at.found ∙ found)) (place_at m to agrees place)

-- the top place that its tables give a waiting access is that of the page that the history has it about
pub top_met : {header : Header} {h : ℕ} {k : Parts} {ids : Ids} {past : List Event} {task : ℕ} {what : Want} {top : PageKey} (to : ℕ)
    → Matches header h k ids [] past → AgreesNext what (next_page task past) → IsAt k.maps k.chains task what top
    → is_some (entries_in task k.maps) ≡ true → (waits : Waits header task (access_in k.maps.size to what) past)
    → IsTop (region_of header waits.at.entry.region.0 past) (page_of header task (access_in k.maps.size to what) past waits.at.entry) top.object.0 top.page.0
top_met {header = header} {k = k} {past = past} {task = task} {what = what} {top = top} to m agrees at here waits =
    subst (λ (z : Entry). IsTop (region_of header z.region.0 past) (page_of header task (access_in size to what) past z) top.object.0 top.page.0)
    (some_is at.entry waits.at.entry (sym at.found ∙ found))
    (subst (λ (z : ℕ). IsTop (region_of header at.entry.region.0 past) z top.object.0 top.page.0) (page_of_want task to what at.entry m agrees) its)
  where
    size : ℕ
    size = k.maps.size

    found : entry_at (address_in size what) (rows_in task k.maps) ≡ Some waits.at.entry
    found =
        ap (entry_at (address_in size what)) (sym (m.core.spaces.tasks.rows task here))
        ∙ (ap (λ z. entry_at z (entries_of header.size task past)) (sym (want_address size header.size (next_page task past) to what m.core.spaces.tasks.sized
        agrees))
        ∙ waits.at.found)

    its : IsTop (region_of header at.entry.region.0 past) (page_at size (address_in size what) at.entry) top.object.0 top.page.0
    its =
        subst (λ (z : PageKey). IsTop (region_of header at.entry.region.0 past) (page_at size (address_in size what) at.entry) z.object.0 z.page.0)
        (sym at.is)
        (top_of (shown_at m) at.entry.region.0 at.row at.region (page_at size (address_in size what) at.entry))
