pub mod Courses
pub mod Firsts
pub mod Reading
pub mod Answering
pub mod Laying
