mod AddsLemmas
mod EntryLemmas
mod NamesLemmas
mod ReadLemmas
mod TextLemmas
mod WildcardLemmas
