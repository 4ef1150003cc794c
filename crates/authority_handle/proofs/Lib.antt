mod Lists
mod Networks
mod Removed
mod Replies
