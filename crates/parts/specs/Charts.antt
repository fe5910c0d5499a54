-- Charts (configuration maps): what is known of the group at each place. A chart is looked at as the list of its entries, of any length.
use Rattle.std.specs.Prelude.{ℕ, suc, ◌+◌, ◌-◌, Bool, true, false, List, [], ◌∷◌, replicate, slice_index_or, slice_set}
use Rattle.parts.specs.declared.counts.Place.{Place}
use Rattle.parts.specs.declared.entries.Entry.{Entry}
use Rattle.parts.specs.declared.entries.Entry.TheVariants.{Unknown, Group, Retired}
use Rattle.parts.specs.declared.charts.Chart.{Chart}
use Rattle.parts.specs.Limits.{places}

-- the chart with these entries
abbrev pub chart_of : List Entry → Chart
chart_of es = record { places = es }

-- the entry at a place; a place past the end is unknown
abbrev pub entry_at : Chart → Place → Entry
entry_at a k = slice_index_or a.places k.0 Unknown

-- the place behind a place, and the one before it
abbrev pub place_after : Place → Place
place_after k = record { 0 = k.0 + 1 }

abbrev pub place_before : Place → Place
place_before k = record { 0 = k.0 - 1 }

-- the chart with another entry at a place; past the end there is none, and nothing changes
abbrev pub with_entry : Place → Entry → Chart → Chart
with_entry k e a = chart_of (slice_set a.places k.0 e)

-- group 0 at place 0, and then unknown places
abbrev pub first_chart : Chart
first_chart = chart_of (slice_set (replicate places Unknown) 0 (Group (record { 0 = 0 })))

-- joining two entries: retired beats a group and a group beats unknown; of two groups the own one stays
abbrev pub join_entry : Entry → Entry → Entry
join_entry Unknown e = e
join_entry (Group c) Unknown = Group c
join_entry (Group c) (Group d) = Group c
join_entry (Group c) Retired = Retired
join_entry Retired e = Retired

-- an entry is joined into one place
abbrev pub join_at : Place → Entry → Chart → Chart
join_at k e a = with_entry k (join_entry (entry_at a k) e) a

-- one place becomes retired
abbrev pub retire_at : Place → Chart → Chart
retire_at k a = with_entry k Retired a

-- extending an entry: an unknown place takes the other chart's group; any other place keeps its own
abbrev pub extend_entry : Entry → Entry → Entry
extend_entry Unknown Unknown = Unknown
extend_entry Unknown (Group d) = Group d
extend_entry Unknown Retired = Unknown
extend_entry (Group c) e = Group c
extend_entry Retired e = Retired

-- two lists of entries put together place by place; places that only the first has stay as they are
unfoldable pub together : (Entry → Entry → Entry) → List Entry → List Entry → List Entry
together f [] bs = []
together f (a ∷ as') [] = a ∷ as'
together f (a ∷ as') (b ∷ bs) = f a b ∷ together f as' bs

-- joining, place by place
abbrev pub join : Chart → Chart → Chart
join a b = chart_of (together join_entry a.places b.places)

-- extending, place by place
abbrev pub extend : Chart → Chart → Chart
extend a b = chart_of (together extend_entry a.places b.places)

-- as many unknown places
unfoldable pub blank : List Entry → List Entry
blank [] = []
blank (e ∷ es) = Unknown ∷ blank es

-- from the first unknown place on, all becomes unknown
unfoldable pub cut_list : List Entry → List Entry
cut_list [] = []
cut_list (Unknown ∷ es) = Unknown ∷ blank es
cut_list (Group c ∷ es) = Group c ∷ cut_list es
cut_list (Retired ∷ es) = Retired ∷ cut_list es

abbrev pub cut : Chart → Chart
cut a = chart_of (cut_list a.places)

-- the place of the first unknown entry, and the number of places if there is none
unfoldable pub length_list : List Entry → ℕ
length_list [] = 0
length_list (Unknown ∷ es) = 0
length_list (Group c ∷ es) = suc (length_list es)
length_list (Retired ∷ es) = suc (length_list es)

-- how many places the cut chart knows
abbrev pub cut_length : Chart → ℕ
cut_length a = length_list a.places

-- some entry is a group
unfoldable pub any_group : List Entry → Bool
any_group [] = false
any_group (Unknown ∷ es) = any_group es
any_group (Group c ∷ es) = true
any_group (Retired ∷ es) = any_group es

-- a group stands behind an unknown place
unfoldable pub gap_list : List Entry → Bool
gap_list [] = false
gap_list (Unknown ∷ es) = any_group es
gap_list (Group c ∷ es) = gap_list es
gap_list (Retired ∷ es) = gap_list es

abbrev pub gap : Chart → Bool
gap a = gap_list a.places

-- an entry is a group
abbrev pub is_group : Entry → Bool
is_group Unknown = false
is_group (Group c) = true
is_group Retired = false

-- an entry is retired
abbrev pub is_retired : Entry → Bool
is_retired Unknown = false
is_retired (Group c) = false
is_retired Retired = true
