mod Sums
mod Firsts
mod Meetings
mod Orders
