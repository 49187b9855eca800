-- What is a host's own: where the host of an event and the host of a kernel are one, what they say of each other computes.
use Rattle.vm_kernel.proofs.Common.{Entry, HasTasks, HostId, List, Mapped, None, Option, Some, [], ap, entries_in, eqb_tells, false, host_id, inl, inr, is_on}
use Rattle.vm_kernel.proofs.Common.{is_some, refl, rows_in, sym, true, unwrap_or, ℕ, ◌==◌, ◌∙◌, ◌≡◌}
use Rattle.vm_kernel.proofs.memory.PagesShown.{itself}

-- the host itself passes its test
pub own_host : (h : ℕ) → (h == h) ≡ true
own_host h = itself h

-- the host with the number of a host is that host
pub named_host : (host : HostId) (h : ℕ) → host.0 ≡ h → host ≡ host_id h
named_host host h same = λ i. record { 0 = same i }

-- a host that passes the test is the host
pub host_same : (host : HostId) (h : ℕ) → (host.0 == h) ≡ true → host ≡ host_id h
host_same host h same = elim (eqb_tells host.0 h) [ inl is ↦ named_host host h is.1 | inr apart ↦ absurd (let bad : false ≡ true = sym apart.0 ∙ same in cc) ]

-- who lives on the host

pub on_is : (h : ℕ) (x : Option ℕ) → is_on h x ≡ true → x ≡ Some h
on_is h None is = absurd (let bad : false ≡ true = is in cc)
on_is h (Some g) is = elim (eqb_tells g h) [ inl same ↦ ap Some same.1 | inr apart ↦ absurd (let bad : false ≡ true = sym apart.0 ∙ is in cc) ]

-- a task that the maps have lives on the host
pub lives_here : {h size task : ℕ} {maps : Mapped} {host_at : ℕ → Option ℕ} {rows_at : ℕ → List Entry} {rows : List Entry}
    → HasTasks h size maps host_at rows_at → entries_in task maps ≡ Some rows → host_at task ≡ Some h
lives_here {h = h} {task = task} {host_at = host_at} has lives = on_is h (host_at task) (has.hosts task ∙ ap is_some lives)

-- and its entries are theirs
pub rows_here : {h size task : ℕ} {maps : Mapped} {host_at : ℕ → Option ℕ} {rows_at : ℕ → List Entry} {rows : List Entry} → HasTasks h size maps host_at rows_at
    → entries_in task maps ≡ Some rows → rows_at task ≡ rows_in task maps
rows_here {task = task} has lives = has.rows task (ap is_some lives)

-- a task that lives on the host has its entries in the maps
pub lives_in : {h size : ℕ} {maps : Mapped} {host_at : ℕ → Option ℕ} {rows_at : ℕ → List Entry} (task : ℕ) → HasTasks h size maps host_at rows_at
    → is_on h (host_at task) ≡ true → entries_in task maps ≡ Some (rows_in task maps)
lives_in {maps = maps} task has lives = some_of (entries_in task maps) (sym (has.hosts task) ∙ lives)
  where
    some_of : (x : Option (List Entry)) → is_some x ≡ true → x ≡ Some (unwrap_or x [])
    some_of None is = absurd (let bad : false ≡ true = is in cc)
    some_of (Some rows) is = refl

-- a task with no host isn't in the maps
pub free_in : {h size : ℕ} {maps : Mapped} {host_at : ℕ → Option ℕ} {rows_at : ℕ → List Entry} (task : ℕ) → HasTasks h size maps host_at rows_at
    → is_some (host_at task) ≡ false → entries_in task maps ≡ None
free_in {h = h} {maps = maps} {host_at = host_at} task has free = by_maps (entries_in task maps) (sym (has.hosts task) ∙ nowhere (host_at task) free)
  where
    nowhere : (x : Option ℕ) → is_some x ≡ false → is_on h x ≡ false
    nowhere None is = refl
    nowhere (Some g) is = absurd (let bad : true ≡ false = is in cc)

    by_maps : (x : Option (List Entry)) → is_some x ≡ false → x ≡ None
    by_maps None is = refl
    by_maps (Some rows) is = absurd (let bad : true ≡ false = is in cc)
