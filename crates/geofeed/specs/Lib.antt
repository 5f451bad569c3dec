pub mod DiskCalls
