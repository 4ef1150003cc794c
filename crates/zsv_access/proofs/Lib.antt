pub mod AccessLaws
mod PrefixLemmas
mod NoNetworks
